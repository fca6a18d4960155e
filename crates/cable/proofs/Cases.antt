-- What each call of a cable says and leaves, case by case. Assumes nothing.
use Rattle.std.proofs.Common.{◌≡◌, ℕ, ◌-◌, ◌<◌, ◌≤◌, true, false, map, length, Some, None, Ok, Err, Option, Result, arith}
use Rattle.std.proofs.lemmas.Bool.Decides.{nat_tests}
use Rattle.frame.specs.Refusals.{Refused}
use Rattle.cable.specs.Calls.{line_after_put, put_said, put_after, line_after_tick, tick_said, tick_after, has_one, line_after_take, take_said, take_after, since_of, since_said}
use Rattle.cable.specs.Model.{Model, pairs_of, line_at, held_at, with_line}
use Rattle.cable.specs.Refusals.{tick_refused, place_refused, pair_refused}
use Rattle.cable.proofs.Shown.{absent, arrived_from, arrived_early}

pub record Put (m : Model) (p b : ℕ) (r : Result Unit Refused) (n : Model) : Type 0 where
  pub said : r ≡ put_said m p
  pub after : n ≡ put_after m p b

pub record Ticked (m : Model) (r : Result Unit Refused) (n : Model) : Type 0 where
  pub said : r ≡ tick_said m
  pub after : n ≡ tick_after m

pub record Taken (m : Model) (p : ℕ) (r : Option ℕ) (n : Model) : Type 0 where
  pub said : r ≡ take_said m p
  pub after : n ≡ take_after m p

pub tick_none : (m : Model) → m.left ≡ 0 → Ticked m (Err tick_refused) m
tick_none m h = grind (arith, nat_tests)

pub tick_done : (m : Model) → 0 < m.left → Ticked m (Ok tt) (record { left = m.left - 1; lines = map line_after_tick m.lines })
tick_done m h = grind (arith, nat_tests)

-- what a tick said tells of the ticks left
pub said_done : (m : Model) → Ok tt ≡ tick_said m → 0 < m.left
said_done m e = grind (arith, nat_tests)

pub said_refused : (m : Model) (r : Refused) → Err r ≡ tick_said m → (m.left ≡ 0) × (r ≡ tick_refused)
said_refused m r e = grind (arith, nat_tests)

module _ (m : Model) (p : ℕ) where
  pub put_absent : (b : ℕ) → pairs_of m ≤ p → Put m p b (Err pair_refused) m
  put_absent b h = grind (arith, nat_tests, absent)

  pub put_full : (b : ℕ) → p < pairs_of m → (line_at m p).places ≤ (line_at m p).used → Put m p b (Err (place_refused p)) m
  put_full b h f = grind (arith, nat_tests)

  pub put_done : (b : ℕ) → p < pairs_of m → (line_at m p).used < (line_at m p).places → Put m p b (Ok tt) (with_line m p (line_after_put (line_at m p) b))
  put_done b h f = grind (arith, nat_tests)

  pub take_none : has_one (line_at m p) ≡ false → Taken m p None m
  take_none e = grind (arith, nat_tests)

  pub take_absent : pairs_of m ≤ p → Taken m p None m
  take_absent h = grind (arith, nat_tests, absent)

  pub take_empty : length (line_at m p).held ≡ 0 → Taken m p None m
  take_empty h = grind (arith, nat_tests)

  pub take_early : (held_at (line_at m p) 0).age < (line_at m p).delay → Taken m p None m
  take_early h = grind (arith, nat_tests, arrived_early)

  pub take_done : 0 < length (line_at m p).held → (line_at m p).delay ≤ (held_at (line_at m p) 0).age
      → Taken m p (Some (held_at (line_at m p) 0).byte) (with_line m p (line_after_take (line_at m p)))
  take_done h d = grind (arith, nat_tests, arrived_from)

  -- what a take or a peek said tells of the pair
  pub said_some : (b : ℕ) → Some b ≡ take_said m p → has_one (line_at m p) ≡ true
  said_some b e = grind (arith, nat_tests)

  pub said_none : None ≡ take_said m p → has_one (line_at m p) ≡ false
  said_none e = grind (arith, nat_tests)

  pub since_short : (k : ℕ) → length (line_at m p).held ≤ k → None ≡ since_said m p k
  since_short k h = grind (arith, nat_tests)

  pub since_held : (k : ℕ) → k < length (line_at m p).held → Some (since_of (line_at m p) (held_at (line_at m p) k)) ≡ since_said m p k
  since_held k h = grind (arith, nat_tests)
