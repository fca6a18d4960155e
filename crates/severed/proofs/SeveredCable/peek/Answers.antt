use Rattle.severed.specs.Shows.{nothing_taken}
use Rattle.severed.proofs.SeveredCable.peek.Goals as goal

pub returns : goal.returns
returns c = (nothing_taken c.args.self.now.pairs c.args.self.now.left c.args.pair).said
