use Rattle.std.proofs.Common.{◌≡◌, get_or}
use Rattle.cable.specs.Model.{numbered}
use Rattle.reel.specs.Rings.{empty_pair}
use Rattle.reel.proofs.row.carry.empty_pairs.Given as goal

-- a pair for each delay so far
abbrev pub invariant-loop-delay : goal.invariant-loop-delay
invariant-loop-delay l = l.pairs.items ≡ numbered l.delay-index (λ p. empty_pair (get_or l.delay-items p 0))
