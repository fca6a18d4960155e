-- What each call of a cable says, and the cable that it leaves. Questions, peek and since leave it as it was. A call that
-- refuses, or gives none, does too. Assumes nothing.
use Rattle.std.specs.Prelude.{ℕ, ◌+◌, ◌-◌, Bool, cond, ◌&&◌, [], ◌∷◌, ◌++◌, map, length, drop, ℤ, pos, ◌-ℤ◌, Some, None, Ok, Err, Option, Result, int_le, nat_lt}
use Rattle.frame.specs.Refusals.{Refused}
use Rattle.cable.specs.Model.{Held, Line, Model, pairs_of, line_at, held_at, holding, with_line}
use Rattle.cable.specs.Refusals.{tick_refused, place_refused, pair_refused}

-- put: a byte joins its pair's list with age 0, and uses a place

-- a place of the pair is not used; an absent pair has none
abbrev pub has_room : Line → Bool
has_room l = nat_lt l.used l.places

abbrev pub line_after_put : Line → ℕ → Line
line_after_put l b = holding l (l.used + 1) (l.held ++ (record { byte = b; age = 0 } ∷ []))

abbrev pub put_said : Model → ℕ → Result Unit Refused
put_said m p = cond (nat_lt p (pairs_of m)) (cond (has_room (line_at m p)) (Ok tt) (Err (place_refused p))) (Err pair_refused)

abbrev pub put_after : Model → ℕ → ℕ → Model
put_after m p b = cond (has_room (line_at m p)) (with_line m p (line_after_put (line_at m p) b)) m

-- tick: one tick is spent, and every byte is one tick older

abbrev pub has_tick : Model → Bool
has_tick m = nat_lt 0 m.left

abbrev pub older : Held → Held
older h = record { byte = h.byte; age = h.age + 1 }

abbrev pub line_after_tick : Line → Line
line_after_tick l = holding l l.used (map older l.held)

abbrev pub tick_said : Model → Result Unit Refused
tick_said m = cond (has_tick m) (Ok tt) (Err tick_refused)

abbrev pub tick_after : Model → Model
tick_after m = cond (has_tick m) (record { left = m.left - 1; lines = map line_after_tick m.lines }) m

-- since: the age of a byte less the delay of its pair

abbrev pub since_of : Line → Held → ℤ
since_of l h = pos h.age -ℤ pos l.delay

abbrev pub since_said : Model → ℕ → ℕ → Option ℤ
since_said m p k = cond (nat_lt k (length (line_at m p).held)) (Some (since_of (line_at m p) (held_at (line_at m p) k))) None

-- take: the oldest byte of a pair, if it has arrived; its place is free again where the pair reuses places. Peek says the
-- same

-- a byte has arrived when its since is 0 or more
abbrev pub has_arrived : Line → Held → Bool
has_arrived l h = int_le (pos 0) (since_of l h)

-- the pair holds a byte, and the oldest has arrived
abbrev pub has_one : Line → Bool
has_one l = nat_lt 0 (length l.held) && has_arrived l (held_at l 0)

abbrev pub freed : Bool → ℕ → ℕ
freed reuse used = cond reuse (used - 1) used

abbrev pub line_after_take : Line → Line
line_after_take l = holding l (freed l.reuse l.used) (drop 1 l.held)

abbrev pub take_said : Model → ℕ → Option ℕ
take_said m p = cond (has_one (line_at m p)) (Some (held_at (line_at m p) 0).byte) None

abbrev pub take_after : Model → ℕ → Model
take_after m p = cond (has_one (line_at m p)) (with_line m p (line_after_take (line_at m p))) m

-- the questions: 0 for an absent pair

abbrev pub free_of : Model → ℕ → ℕ
free_of m p = (line_at m p).places - (line_at m p).used

abbrev pub delay_of : Model → ℕ → ℕ
delay_of m p = (line_at m p).delay
