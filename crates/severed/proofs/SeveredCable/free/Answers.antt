use Rattle.std.proofs.Common.{◌-◌, sym, ap}
use Rattle.cable.specs.Model.{Line}
use Rattle.severed.specs.Shows.{line_shown}
use Rattle.severed.proofs.SeveredCable.free.Goals as goal

pub returns : goal.returns
returns c = sym (ap (λ (l : Line). l.places - l.used) (line_shown c.args.self.now.pairs c.args.self.now.left c.args.pair))
