-- Calls made one after another on one cable: what is put comes out, and since counts the ticks. Assumes nothing.
use Rattle.std.specs.Prelude.{◌≡◌, ℕ, zero, suc, ◌≤◌, true, cond, ◌&&◌, List, [], ◌∷◌, ◌++◌, length, ℤ, pos, negsuc, ◌-ℤ◌, Some, None, Ok, Err, Option, Result, ◌==◌, nat_le}
use Rattle.frame.specs.Refusals.{Refused}
use Rattle.cable.specs.Calls.{has_room, put_after, tick_after, take_said, take_after, since_said, delay_of}
use Rattle.cable.specs.Model.{Model, line_at, bytes_of}
use Rattle.cable.specs.Refusals.{tick_refused}

-- a call that can change a cable
pub data Call : Type 0 where
  put : ℕ → ℕ → Call
  tick : Call
  take : ℕ → Call

abbrev pub after : Model → Call → Model
after m (put p b) = put_after m p b
after m tick = tick_after m
after m (take p) = take_after m p

abbrev pub after_all : Model → List Call → Model
after_all m [] = m
after_all m (c ∷ cs) = after_all (after m c) cs

-- the bytes that a call puts on pair p: none where it is refused
abbrev pub put_on : ℕ → Model → Call → List ℕ
put_on p m (put q b) = cond (q == p && has_room (line_at m q)) (b ∷ []) []
put_on p m tick = []
put_on p m (take q) = []

-- the bytes that a call takes from pair p
abbrev pub given : Option ℕ → List ℕ
given None = []
given (Some b) = b ∷ []

abbrev pub taken_from : ℕ → Model → Call → List ℕ
taken_from p m (put q b) = []
taken_from p m tick = []
taken_from p m (take q) = cond (q == p) (given (take_said m q)) []

abbrev pub all_put_on : ℕ → Model → List Call → List ℕ
all_put_on p m [] = []
all_put_on p m (c ∷ cs) = put_on p m c ++ all_put_on p (after m c) cs

abbrev pub all_taken_from : ℕ → Model → List Call → List ℕ
all_taken_from p m [] = []
all_taken_from p m (c ∷ cs) = taken_from p m c ++ all_taken_from p (after m c) cs

-- whatever calls are made, the bytes taken from a pair and those that it still holds are, in order, those that it held and
-- those put since
abbrev pub PutComesOut : Model → Type 0
PutComesOut m = (p : ℕ) (calls : List Call) → all_taken_from p m calls ++ bytes_of (line_at (after_all m calls) p) ≡ bytes_of (line_at m p) ++ all_put_on p m calls

-- a cable once n ticks more have passed, or all that it had left
unfoldable pub ticked : ℕ → Model → Model
ticked zero m = m
ticked (suc n) m = ticked n (tick_after m)

-- what letting n ticks pass says
abbrev pub ticked_said : ℕ → Model → Result Unit Refused
ticked_said n m = cond (nat_le n m.left) (Ok tt) (Err tick_refused)

-- the since of the byte b, put on pair p, once n ticks have passed
abbrev pub since_after : Model → ℕ → ℕ → ℕ → Option ℤ
since_after m p b n = since_said (ticked n (put_after m p b)) p (length (line_at m p).held)

-- since counts the ticks from a byte's arrival
abbrev pub SinceCounts : Model → Type 0
SinceCounts m = (p b n : ℕ) → has_room (line_at m p) ≡ true → n ≤ m.left → since_after m p b n ≡ Some (pos n -ℤ pos (delay_of m p))

-- with a delay of 5, since is -2 after three ticks, 0 after five and 2 after seven
abbrev pub SinceAtDelayFive : Model → Type 0
SinceAtDelayFive m =
    (p b : ℕ) → has_room (line_at m p) ≡ true → 7 ≤ m.left → delay_of m p ≡ 5
    → (since_after m p b 3 ≡ Some (negsuc 1)) × (since_after m p b 5 ≡ Some (pos 0)) × (since_after m p b 7 ≡ Some (pos 2))
