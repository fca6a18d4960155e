-- What a row shows as a cable, and that it is well formed. Assumes nothing.
use Rattle.std.specs.Prelude.{◌≡◌, ℕ, ◌+◌, ◌*◌, ◌<◌, ◌≤◌, Bool, cond, ltb, length, nat_lt}
use Rattle.std.proofs.Common.{sym, ap, ◌∙◌, ⊎_elim, arith}
use Rattle.std.proofs.lemmas.Bool.{cases_lt, cond-true, cond-false, lt-ltb, le-ltb}
use Rattle.cable.specs.Bounds.{most_pairs, most_ticks}
use Rattle.cable.specs.Formed.{Formed}
use Rattle.cable.specs.Model.{Held, Line, no_line, pairs_of, line_at, no_held, held_at}
use Rattle.cable.proofs.Numbered.{numbered_length, numbered_at, numbered_past}
use Rattle.reel.specs.Rings.{ring_at, place_at, Short, Turned, Past, Ordered}
use Rattle.reel.specs.Rows.{Parts, parts_of, held_in, line_of, model_of}
use Rattle.reel.specs.declared.row.Row.{Row}

-- what is always so of a row
pub record Sound (r : Parts) : Type 0 where
  pub some : 1 ≤ length r.pairs
  pub few : length r.pairs ≤ most_pairs
  pub shared : length r.pairs * r.share ≤ length r.places
  pub timed : r.clock + r.left ≤ most_ticks
  pub short : Short r.pairs
  pub turned : Turned r.pairs r.share
  pub past : Past r.places r.pairs r.share r.clock
  pub ordered : Ordered r.places r.pairs r.share

pub sound : {P : Type 0} (reuse : Bool) (row : Row P) → Sound (parts_of reuse row)
sound reuse row = record {
  some = row.some;
  few = row.few;
  shared = omega (arith, row.shared, row.places.ok.0);
  timed = row.timed;
  short = row.short;
  turned = row.turned;
  past = row.past;
  ordered = row.ordered;
}

module _ (r : Parts) where
  pub row_pairs : pairs_of (model_of r) ≡ length r.pairs
  row_pairs = numbered_length (length r.pairs) (line_of r)

  pub row_line : (p : ℕ) → p < length r.pairs → line_at (model_of r) p ≡ line_of r p
  row_line p h = numbered_at (length r.pairs) (line_of r) p no_line h

  pub row_absent : (p : ℕ) → length r.pairs ≤ p → line_at (model_of r) p ≡ no_line
  row_absent p h = numbered_past (length r.pairs) (line_of r) p no_line h

  -- whether a pair is there, and what is shown of it then
  pub has_counted : (p : ℕ) → nat_lt p (length r.pairs) ≡ nat_lt p (pairs_of (model_of r))
  has_counted p = ap (ltb p) (sym row_pairs)

  pub has_shown : (p : ℕ) → line_at (model_of r) p ≡ cond (nat_lt p (length r.pairs)) (line_of r p) no_line
  has_shown p = ⊎_elim
      (λ (l : p < length r.pairs). row_line p l ∙ sym (cond-true _ _ _ (lt-ltb p (length r.pairs) l)))
      (λ (l : length r.pairs ≤ p). row_absent p l ∙ sym (cond-false _ _ _ (le-ltb p (length r.pairs) l)))
      (cases_lt p (length r.pairs))

  line_length : (p : ℕ) → length (line_of r p).held ≡ (ring_at r.pairs p).count
  line_length p = numbered_length (ring_at r.pairs p).count (λ k. held_in r.clock (place_at r.places r.pairs r.share p k))

  line_held : (p k : ℕ) → k < (ring_at r.pairs p).count → held_at (line_of r p) k ≡ held_in r.clock (place_at r.places r.pairs r.share p k)
  line_held p k h =
      numbered_at (ring_at r.pairs p).count (λ k. held_in r.clock (place_at r.places r.pairs r.share p k)) k no_held h

  pub row_length : (p : ℕ) → p < length r.pairs → length (line_at (model_of r) p).held ≡ (ring_at r.pairs p).count
  row_length p l = ap (λ (x : Line). length x.held) (row_line p l) ∙ line_length p

  pub row_held : (p k : ℕ) → p < length r.pairs → k < (ring_at r.pairs p).count
      → held_at (line_at (model_of r) p) k ≡ held_in r.clock (place_at r.places r.pairs r.share p k)
  row_held p k l h = ap (λ (x : Line). held_at x k) (row_line p l) ∙ line_held p k h

  pub row_formed : Sound r → Formed (model_of r)
  row_formed s = record {
    some = omega (arith, row_pairs, s.some);
    few = omega (arith, row_pairs, s.few);
    timed = omega (arith, s.timed);
    each = λ p. ⊎_elim
        (λ (l : p < length r.pairs). rw (row_line p l) (record {
          short = s.short p;
          placed = omega (arith, line_length p, (s.turned p l).1);
          within = (s.turned p l).2;
          falls = λ j k le h.
              let hk : k < (ring_at r.pairs p).count = omega (arith, line_length p) in
              let hj : j < (ring_at r.pairs p).count = omega arith in
              omega (arith, ap (λ (x : Held). x.age) (line_held p k hk), ap (λ (x : Held). x.age) (line_held p j hj), s.ordered p j k (l, le, hk));
        }))
        (λ (l : length r.pairs ≤ p). rw (row_absent p l)
        (record { short = omega arith; placed = omega arith; within = omega arith; falls = λ j k le h. omega arith }))
        (cases_lt p (length r.pairs));
  }
