-- What passing ticks leave of a cable. Assumes nothing.
use Rattle.std.proofs.Common.{◌≡◌, ℕ, zero, suc, ◌+◌, ◌-◌, ◌<◌, ◌≤◌, length, Ok, Err, refl, add-suc, add-one, arith}
use Rattle.std.proofs.lemmas.List.{get_or_push, length_push}
use Rattle.std.proofs.lemmas.Bool.Decides.{nat_tests}
use Rattle.std.proofs.lemmas.Grind.{common_steps}
use Rattle.frame.specs.Refusals.{Refused}
use Rattle.cable.specs.Calls.{line_after_put, put_after, line_after_tick, tick_said, tick_after}
use Rattle.cable.specs.Model.{Line, Model, line_at, held_at}
use Rattle.cable.specs.Runs.{ticked, ticked_said, SinceCounts, SinceAtDelayFive}
use Rattle.cable.proofs.Shown.{line_ticked, room_there, with_here}

pub ticked_more : (n : ℕ) (m : Model) → ticked (n + 1) m ≡ tick_after (ticked n m)
unfolding ticked
ticked_more zero m = refl
ticked_more (suc n) m = grind (arith, ticked_more n (tick_after m), add-one)

-- no tick passes once none is left
ticked_spent : (n k : ℕ) (m : Model) → (ticked n m).left ≡ 0 → ticked (n + k) m ≡ ticked n m
ticked_spent n zero m h = grind arith
ticked_spent n (suc k) m h = grind (arith, nat_tests, add-suc n k, add-one (n + k), ticked_more (n + k) m, ticked_spent n k m h)

pub ticked_left : (n : ℕ) (m : Model) → n ≤ m.left → (ticked n m).left ≡ m.left - n
unfolding ticked
ticked_left zero m h = omega arith
ticked_left (suc n) m h = grind (arith, nat_tests, ticked_left n (tick_after m))

-- one tick more, of those that are to pass
pub passed_more : (m x : Model) (n : ℕ) → x ≡ ticked n m → n ≤ m.left → Ok tt ≡ tick_said x → (tick_after x ≡ ticked (n + 1) m) × (n + 1 ≤ m.left)
passed_more m x n is few said = grind (arith, nat_tests, ticked_more n m, ticked_left n m)

pub passed_all : (m x : Model) (n ticks : ℕ) (r : Refused) → x ≡ ticked n m → n ≤ m.left → n < ticks → Err r ≡ tick_said x
    → (Err r ≡ ticked_said ticks m) × (tick_after x ≡ ticked ticks m)
passed_all m x n ticks r is few less said = grind (arith, nat_tests, ticked_left n m, ticked_spent n (ticks - n) m)

-- a line n ticks later
pub record Later (n : ℕ) (l k : Line) : Type 0 where
  pub same_delay : k.delay ≡ l.delay
  pub same_length : length k.held ≡ length l.held
  pub ages : (j : ℕ) → j < length l.held → (held_at k j).age ≡ (held_at l j).age + n

pub ticked_line : (n : ℕ) (m : Model) (p : ℕ) → n ≤ m.left → Later n (line_at m p) (line_at (ticked n m) p)
unfolding ticked
ticked_line zero m p h = record { same_delay = refl; same_length = refl; ages = λ j l. omega arith }
ticked_line (suc n) m p h =
    let line : line_at (tick_after m) p ≡ line_after_tick (line_at m p) = grind (arith, nat_tests, line_ticked) in
    let rest = ticked_line n (tick_after m) p (grind (arith, nat_tests)) in
    record {
      same_delay = grind (arith, rest.same_delay);
      same_length = grind (arith, common_steps, rest.same_length);
      ages = λ j l. grind (arith, common_steps, rest.ages j);
    }

pub since_counts : (m : Model) → SinceCounts m
since_counts m p b n room few =
    let x = put_after m p b in
    let put : line_at x p ≡ line_after_put (line_at m p) b = grind (arith, nat_tests, with_here, room_there) in
    let later = rw put at (ticked_line n x p (grind (arith, nat_tests))) in
    grind (arith, nat_tests, later, later.ages (length (line_at m p).held), length_push, get_or_push)

pub since_at_delay_five : (m : Model) → SinceAtDelayFive m
since_at_delay_five m p b room left five =
    let counts = since_counts m p b in
    (cc (counts 3 room (omega arith)), cc (counts 5 room (omega arith)), cc (counts 7 room (omega arith)))
