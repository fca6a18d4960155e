use Rattle.severed.specs.Shows.{nothing_taken}
use Rattle.severed.proofs.SeveredCable.take.Goals as goal

pub returns : goal.returns
returns c = let e = nothing_taken c.args.self.now.pairs c.args.self.now.left c.args.pair in record { said = e.said; after = e.after }
