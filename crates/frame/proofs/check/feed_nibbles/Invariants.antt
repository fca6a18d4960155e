use Rattle.std.proofs.Common.{◌≡◌, ◌*◌, ◌^◌, ◌<◌}
use Rattle.frame.specs.Checks.{fed_bits}
use Rattle.frame.specs.Division.{bits}
use Rattle.frame.proofs.check.feed_nibbles.Given as goal

-- what is left of the bits leads where all of them do
abbrev pub invariant-loop-k : goal.invariant-loop-k
invariant-loop-k g l =
    let check = g.C.Check in
    (fed_bits check.DEGREE check.LOWER l.state (bits (4 * l.k) l.value) ≡ fed_bits check.DEGREE check.LOWER l.register (bits (4 * l.count) l.value))
    × (l.state < 2 ^ check.DEGREE)
