use Rattle.std.proofs.Common.{◌≡◌, ◌^◌, ◌<◌, drop}
use Rattle.frame.specs.Checks.{fed}
use Rattle.frame.proofs.check.feed.Given as goal

-- what is left of the bytes leads where all of them do
abbrev pub invariant-loop-byte : goal.invariant-loop-byte
invariant-loop-byte g l =
    let check = g.C.Check in
    (fed check.DEGREE check.LOWER l.state (drop l.byte-index l.bytes) ≡ fed check.DEGREE check.LOWER l.register l.bytes)
    × (l.state < 2 ^ check.DEGREE)
