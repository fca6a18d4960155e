use Rattle.std.proofs.Common.{length, ap, arith}
use Rattle.cable.specs.Model.{Line}
use Rattle.cable.proofs.Cases.{since_short}
use Rattle.severed.specs.Severed.{without_places}
use Rattle.severed.specs.Shows.{line_shown}
use Rattle.severed.proofs.SeveredCable.since.Goals as goal

pub returns : goal.returns
returns c =
    let n = c.args.self.now.pairs in
    let left = c.args.self.now.left in
    since_short (without_places n left) c.args.pair c.args.k (omega (arith, ap (λ (l : Line). length l.held) (line_shown n left c.args.pair)))
