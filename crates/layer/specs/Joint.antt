-- Two cables side by side. Assumes nothing.
use Rattle.std.specs.Prelude.{ℕ, ◌-◌, min, cond, ◌++◌, take, Some, None, Ok, Err, Option, Result, nat_lt}
use Rattle.cable.specs.Bounds.{most_pairs}
use Rattle.cable.specs.Model.{Line, Model, no_line, line_at}
use Rattle.cable.specs.declared.refusal.CableRefusal.{CableRefusal}
use Rattle.cable.specs.declared.refusal.CableRefusal.TheVariants.{NoTick, NoPlace, PairAbsent}
use Rattle.layer.specs.declared.joint.Joint.{Joint}
use Rattle.layer.specs.declared.joint.Side.{Side}
use Rattle.layer.specs.declared.joint.Side.TheVariants.{First, Second}

-- the second's pairs follow the first's, and those past the last that a cable may have cannot be reached; the smaller ticks
-- left count
abbrev pub side_by_side : Model → Model → Model
side_by_side a b = record { left = min a.left b.left; lines = take most_pairs (a.lines ++ b.lines) }

-- what a joint means
abbrev pub joint_model : {K L : Type 0} → (K → Model) → (L → Model) → Joint K L → Model
joint_model first second j = side_by_side (first j.first) (second j.second)

-- on which side pair p of a joint lies, and its number there, where the first side has n pairs; none where it cannot be reached
abbrev pub side_of : ℕ → ℕ → Option Side
side_of n p = cond (nat_lt p n) (Some (First p)) (cond (nat_lt p most_pairs) (Some (Second (p - n))) None)

-- what that side shows of it
abbrev pub shown_at : Model → Model → Option Side → Line
shown_at a b (Some (First q)) = line_at a q
shown_at a b (Some (Second q)) = line_at b q
shown_at a b None = no_line

-- an answer to a put, told of pair p
abbrev pub told_of : ℕ → Result Unit CableRefusal → Result Unit CableRefusal
told_of p (Ok x) = Ok x
told_of p (Err NoTick) = Err NoTick
told_of p (Err (NoPlace q)) = Err (NoPlace p)
told_of p (Err PairAbsent) = Err PairAbsent
