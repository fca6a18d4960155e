use Rattle.std.proofs.Common.{◌≡◌, ◌%◌, ◌^◌, ◌<◌}
use Rattle.frame.specs.Division.{divided, bits}
use Rattle.frame.proofs.check.Divisor.feed.Given as goal

-- what is left of the bits leads where all of them do
abbrev pub invariant-loop-k : goal.invariant-loop-k
invariant-loop-k l =
    (divided l.self.degree l.self.lower l.state (bits l.k l.value) ≡ divided l.self.degree l.self.lower (l.register % 2 ^ l.self.degree) (bits l.count l.value))
    × (l.state < 2 ^ l.self.degree)
