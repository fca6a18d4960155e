use Rattle.std.proofs.Common.{◌≡◌, ◌≤◌}
use Rattle.cable.specs.Runs.{ticked}
use Rattle.cable.proofs.run.pass.Given as goal

abbrev pub invariant-loop-passed : goal.invariant-loop-passed
invariant-loop-passed g l =
    let m = g.K.Cable.model l.initial.cable in
    (g.K.Cable.model l.cable ≡ ticked l.passed m) × (l.passed ≤ m.left)
