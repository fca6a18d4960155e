use Rattle.std.proofs.Common.{◌≡◌, drop}
use Rattle.carry.specs.Carrying.{carried_sum}
use Rattle.carry.proofs.carry.Given as goal

-- the bytes that are left lead to the sum of all
abbrev pub invariant-loop-i : goal.invariant-loop-i
invariant-loop-i g l =
    let m = g.K.Cable.model in
    carried_sum l.sum (m l.cable) l.i (drop l.i l.bytes) ≡ carried_sum 0 (m l.initial.cable) 0 l.bytes
