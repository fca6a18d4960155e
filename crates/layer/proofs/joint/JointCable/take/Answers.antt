use Rattle.std.proofs.Common.{refl}
use Rattle.cable.specs.Calls.{has_one}
use Rattle.layer.specs.Passed.{passed_same, passed_take}
use Rattle.layer.proofs.joint.JointCable.take.Goals as goal

pub returns-in-First-clause-after : goal.returns-in-First-clause-after
returns-in-First-clause-after g c =
    let on = rw c.in-First.is at c.in_ok-at.ensures.passes in
    passed_take on (passed_same on has_one (λ _. refl)) c.take.ensures.after

pub returns-in-Second-clause-after : goal.returns-in-Second-clause-after
returns-in-Second-clause-after g c =
    let on = rw c.in-Second.is at c.in_ok-at.ensures.passes in
    passed_take on (passed_same on has_one (λ _. refl)) c.take-in-Second.ensures.after
