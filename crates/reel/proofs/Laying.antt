-- A row just laid: it is sound, and holds nothing. Assumes nothing.
use Rattle.std.proofs.Common.{◌≡◌, ℕ, ◌+◌, ◌*◌, ◌<◌, ◌≤◌, List, length, get_or, ap, ◌∙◌, ⊎_elim, arith}
use Rattle.std.proofs.lemmas.List.{get_or_past}
use Rattle.std.proofs.lemmas.Bool.{cases_lt}
use Rattle.cable.specs.Bounds.{most_pairs, most_ticks, most_delay}
use Rattle.cable.specs.Model.{Held, no_line, numbered}
use Rattle.cable.proofs.Numbered.{numbered_length, numbered_at, numbered_same}
use Rattle.reel.specs.Rings.{empty_pair, pair_at, place_at}
use Rattle.reel.specs.Rows.{Parts, held_in, line_of, new_line}
use Rattle.reel.proofs.Putting.{line_with}
use Rattle.reel.specs.Shows.{Sound}
use Rattle.reel.specs.declared.place.Pair.{Pair}

-- what any of n empty pairs is, and any past them
module _ (r : Parts) (delays : List ℕ) (n : ℕ) (is : r.pairs ≡ numbered n (λ p. empty_pair (get_or delays p 0))) where
  long : length r.pairs ≡ n
  long = ap length is ∙ numbered_length n (λ p. empty_pair (get_or delays p 0))

  at : (p : ℕ) → p < n → pair_at r.pairs p ≡ empty_pair (get_or delays p 0)
  at p l = ap (λ xs. pair_at xs p) is ∙ numbered_at n (λ q. empty_pair (get_or delays q 0)) p (empty_pair 0) l

  any : ((p : ℕ) → get_or delays p 0 ≤ most_delay) → (p : ℕ) → (d : ℕ) × (d ≤ most_delay) × (pair_at r.pairs p ≡ empty_pair d)
  any short p = ⊎_elim
      (λ (l : p < n). (get_or delays p 0, short p, at p l))
      (λ (l : n ≤ p). (0, omega arith, get_or_past r.pairs p (empty_pair 0) (omega (arith, long))))
      (cases_lt p n)

  pub laid_sound : 1 ≤ n → n ≤ most_pairs → n * r.share ≤ length r.places → r.clock + r.left ≤ most_ticks → ((p : ℕ) → get_or delays p 0 ≤ most_delay) → Sound r
  laid_sound some few shared timed short = record {
    some = omega (arith, long);
    few = omega (arith, long);
    shared = rw long shared;
    timed = timed;
    short = λ p. let a = any short p in rw (a.2) (a.1);
    turned = λ p l. rw (ap (λ (x : Pair). x.ring) ((any short p).2)) (omega arith, omega arith, omega arith);
    past = λ p k h. omega (arith, ap (λ (x : Pair). x.ring.count) ((any short p).2));
    ordered = λ p j k h. omega (arith, ap (λ (x : Pair). x.ring.count) ((any short p).2));
  }

  pub laid_lines : numbered (length r.pairs) (line_of r) ≡ numbered n (λ p. new_line r.reuse r.share (get_or delays p 0))
  laid_lines = ap (λ z. numbered z (line_of r)) long ∙ numbered_same n _ _ no_line (λ p l.
      let held : ℕ → Held = λ k. held_in r.clock (place_at r.places r.pairs r.share p k) in
      ap (λ (x : Pair). line_with x r.share r.reuse (numbered x.ring.count held)) (at p l))
