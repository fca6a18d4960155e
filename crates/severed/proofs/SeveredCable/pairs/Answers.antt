use Rattle.std.proofs.Common.{sym}
use Rattle.severed.specs.Shows.{pairs_shown}
use Rattle.severed.proofs.SeveredCable.pairs.Goals as goal

pub returns : goal.returns
returns c = sym (pairs_shown c.args.self.now.pairs c.args.self.now.left)
