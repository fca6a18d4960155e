-- What a model shows of a pair. Assumes nothing.
use Rattle.std.proofs.Common.{◌≡◌, ℕ, ◌<◌, ◌≤◌, Bool, true, false, cond, ltb, List, map, length, get_or, ℤ, pos, ◌-ℤ◌, Some, None, refl, arith}
use lib.Signed.{le_z}
use Rattle.std.proofs.lemmas.Bool.Decides.{nat_tests}
use Rattle.std.proofs.lemmas.Grind.{common_steps}
use Rattle.std.proofs.lemmas.Int.{ints}
use Rattle.std.proofs.lemmas.List.{get_or_past, get_or-set_same, get_or-set_other}
use Rattle.cable.specs.Calls.{has_room, line_after_tick, since_of, has_arrived, has_one}
use Rattle.cable.specs.Model.{Line, Model, pairs_of, no_line, line_at, held_at, with_line}

abbrev pub model_with : ℕ → List Line → Model
model_with left lines = record { left = left; lines = lines }

pub same_models : {a b : ℕ} {k l : List Line} → a ≡ b → k ≡ l → model_with a k ≡ model_with b l
same_models p q = cc

pub absent : (m : Model) (p : ℕ) → pairs_of m ≤ p → line_at m p ≡ no_line
absent m p h = get_or_past m.lines p no_line h

-- a pair has what an absent one has not: it is there
pub there_by : (f : Line → Bool) → f no_line ≡ false → (m : Model) (p : ℕ) → f (line_at m p) ≡ true → p < pairs_of m
there_by f none m p h = grind (arith, absent)

pub room_there : (m : Model) (p : ℕ) → has_room (line_at m p) ≡ true → p < pairs_of m
room_there = there_by has_room refl

pub one_there : (m : Model) (p : ℕ) → has_one (line_at m p) ≡ true → p < pairs_of m
one_there = there_by has_one refl

pub held_there : (m : Model) (p k : ℕ) → k < length (line_at m p).held → p < pairs_of m
held_there m p k h = grind (arith, absent)

-- a line changed, as it shows
pub with_here : (m : Model) (p : ℕ) (l : Line) → p < pairs_of m → line_at (with_line m p l) p ≡ l
with_here m p l h = get_or-set_same m.lines p l no_line h

pub with_there : (m : Model) (p q : ℕ) (l : Line) → (q ≡ p → ⊥) → line_at (with_line m p l) q ≡ line_at m q
with_there m p q l ne = get_or-set_other m.lines p q l no_line ne

-- an absent pair grows older by nothing
pub line_ticked : (m : Model) (p : ℕ) → get_or (map line_after_tick m.lines) p no_line ≡ line_after_tick (line_at m p)
line_ticked m p = grind (arith, common_steps)

-- a byte has arrived exactly when its age has reached the delay
pub arrived_from : (d a : ℕ) → d ≤ a → le_z (pos 0) (pos a -ℤ pos d) ≡ true
arrived_from d a h = grind (arith, ints)

pub arrived_early : (d a : ℕ) → a < d → le_z (pos 0) (pos a -ℤ pos d) ≡ false
arrived_early d a h = grind (arith, ints)

pub arrived_age : (d a : ℕ) → le_z (pos 0) (pos a -ℤ pos d) ≡ true → d ≤ a
arrived_age d a h = grind (arith, ints)

pub one_from : (l : Line) → 0 < length l.held → has_arrived l (held_at l 0) ≡ true → has_one l ≡ true
one_from l h a = grind (arith, nat_tests)

pub one_parts : (l : Line) → has_one l ≡ true → (0 < length l.held) × (has_arrived l (held_at l 0) ≡ true)
one_parts l h = grind (arith, nat_tests)

-- what a since tells
pub since_some : (l : Line) (k : ℕ) (z : ℤ) → Some z ≡ cond (ltb k (length l.held)) (Some (since_of l (held_at l k))) None
    → (k < length l.held) × (z ≡ since_of l (held_at l k))
since_some l k z h = grind (arith, nat_tests)

pub since_none : (l : Line) (k : ℕ) → None ≡ cond (ltb k (length l.held)) (Some (since_of l (held_at l k))) None → ltb k (length l.held) ≡ false
since_none l k h = grind (arith, nat_tests)
