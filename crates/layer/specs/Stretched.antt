-- What a stretched cable shows and leaves. Assumes nothing.
use Rattle.std.specs.Prelude.{◌≡◌, ℕ, ◌-◌, ◌<◌, ◌≤◌, true, false, List, map, length, get_or, ℤ, pos, ◌+ℤ◌, Some, None, int_le, nat_lt, slice_index, slice_index_or, refl}
use Rattle.std.proofs.Common.{sym, ap, ◌∙◌, ⊎_elim, arith, length-set}
use Rattle.std.proofs.lemmas.List.{length-map}
use Rattle.std.proofs.lemmas.Int.{ints}
use Rattle.std.proofs.lemmas.Bool.{cases_lt, cases_Bool, cond-true, cond-false, lt-ltb}
use Rattle.cable.specs.Bounds.{most_pairs}
use Rattle.cable.specs.Calls.{has_tick, line_after_tick, tick_after, since_said, has_one, delay_of}
use Rattle.cable.specs.Formed.{Formed}
use Rattle.cable.specs.Model.{Line, Model, pairs_of, no_line, line_at, held_at, with_line, numbered}
use Rattle.cable.proofs.Numbered.{numbered_length, numbered_at, numbered_same, numbered_set, numbered_map}
use Rattle.cable.proofs.Shown.{same_models, absent, held_there, with_here, with_there, line_ticked, arrived_from, arrived_age, one_from, since_some, since_none}
use Rattle.layer.specs.Stretch.{together, longer, stretched, sums_of, OneStretch}
use Rattle.layer.specs.Passed.{delayed, Passes, passed_line, passed_absent, passed_same}

module _ (xs : List ℕ) (m : Model) where
  pub stretched_pairs : pairs_of (stretched xs m) ≡ pairs_of m
  stretched_pairs = numbered_length (pairs_of m) (λ q. longer (slice_index xs q) (line_at m q))

  pub stretch_passes : (p : ℕ) → Passes (stretched xs) (λ d. together d (slice_index xs p)) m p p
  stretch_passes p = record {
    there = ap (nat_lt p) stretched_pairs;
    moves = λ l h.
        let g : ℕ → Line = λ q. longer (slice_index xs q) (line_at (with_line m p l) q) in
        same_models {a = m.left} refl (ap (λ n. numbered n g) (length-set m.lines p l)
        ∙ numbered_set (pairs_of m) p (λ q. longer (slice_index xs q) (line_at m q)) g (longer (slice_index xs p) l) h
        (ap (longer (slice_index xs p)) (with_here m p l h))
        (λ q _ ne. ap (longer (slice_index xs q)) (with_there m p q l ne)));
  }

  pub stretched_tick : {n : Model} → n ≡ tick_after m → stretched xs n ≡ tick_after (stretched xs m)
  stretched_tick after = ap (stretched xs) after ∙ ⊎_elim
      (λ (t : has_tick m ≡ true).
      ap (stretched xs) (cond-true _ _ _ t)
      ∙ same_models {a = m.left - 1} refl
      (ap (λ n. numbered n (λ q. longer (slice_index xs q) (slice_index_or (map line_after_tick m.lines) q no_line))) (length-map m.lines line_after_tick)
      ∙ numbered_same (pairs_of m) _ _ no_line (λ q _. ap (longer (slice_index xs q)) (line_ticked m q))
      ∙ sym (numbered_map line_after_tick (pairs_of m) (λ q. longer (slice_index xs q) (line_at m q)) no_line))
      ∙ sym (cond-true _ _ _ t))
      (λ (t : has_tick m ≡ false). ap (stretched xs) (cond-false _ _ _ t) ∙ sym (cond-false _ _ _ t))
      (cases_Bool (has_tick m))

  stretched_held : (p : ℕ) → (line_at (stretched xs m) p).held ≡ (line_at m p).held
  stretched_held p = passed_same (stretch_passes p) (λ l. l.held) (λ _. refl)

  -- a since and its delay make the age, inside and outside
  pub stretched_since : (p k : ℕ) (z : ℤ) → Some z ≡ since_said m p k → {y : ℤ}
      → y +ℤ pos (delay_of (stretched xs m) p) ≡ z +ℤ pos (delay_of m p) → Some y ≡ since_said (stretched xs m) p k
  stretched_since p k z said age =
      let inside = since_some (line_at m p) k z said in
      let held = stretched_held p in
      rw held (sym (cond-true _ _ _ (lt-ltb _ _ inside.0) ∙ ap Some (omega (arith, ints, inside.1))))

  -- the delay of a pair that holds a byte
  pub held_delay : (p k : ℕ) → k < length (line_at m p).held → delay_of (stretched xs m) p ≡ together (delay_of m p) (slice_index xs p)
  held_delay p k h = ap (λ (l : Line). l.delay) (passed_line (stretch_passes p) (held_there m p k h))

  pub stretched_since_none : (p k : ℕ) → None ≡ since_said m p k → None ≡ since_said (stretched xs m) p k
  stretched_since_none p k said = let held = stretched_held p in rw held (sym (cond-false _ _ _ (since_none (line_at m p) k said)))

  module _ (f : Formed m) where
    pub stretched_delay : (p : ℕ) → delay_of m p ≤ delay_of (stretched xs m) p
    stretched_delay p = ⊎_elim
        (λ (h : p < pairs_of m). omega (arith, ap (λ (l : Line). l.delay) (passed_line (stretch_passes p) h), (f.each p).short))
        (λ (h : pairs_of m ≤ p). omega (arith, ap (λ (l : Line). l.delay) (absent m p h)))
        (cases_lt p (pairs_of m))

    -- where the oldest byte shows a since of 0 or more, it has arrived, outside and so inside
    pub stretched_one : (p : ℕ) (z : ℤ) → Some z ≡ since_said (stretched xs m) p 0 → int_le (pos 0) z ≡ true
        → has_one (line_at (stretched xs m) p) ≡ has_one (line_at m p)
    stretched_one p z said late =
        let outside = since_some (line_at (stretched xs m) p) 0 z said in
        let inside = rw (stretched_held p) at outside in
        let age = (held_at (line_at m p) 0).age in
        one_from (line_at (stretched xs m) p) outside.0 (rw outside.1 at late)
        ∙ sym (one_from (line_at m p) inside.0 (arrived_from (delay_of m p) age
        (omega (arith, stretched_delay p, arrived_age (delay_of (stretched xs m) p) age (rw inside.1 at late)))))

    pub stretched_formed : Formed (stretched xs m)
    stretched_formed = record {
      some = omega (arith, stretched_pairs, f.some);
      few = omega (arith, stretched_pairs, f.few);
      timed = f.timed;
      each = λ p. ⊎_elim
          (λ (h : p < pairs_of m). rw (passed_line (stretch_passes p) h)
          (record { short = omega arith; placed = (f.each p).placed; within = (f.each p).within; falls = (f.each p).falls }))
          (λ (h : pairs_of m ≤ p). rw (passed_absent (stretch_passes p) h) (rw (absent m p h) at (f.each p)))
          (cases_lt p (pairs_of m));
    }

sums_at : (xs ys : List ℕ) (p : ℕ) → p < most_pairs → slice_index (sums_of xs ys) p ≡ together (slice_index xs p) (slice_index ys p)
sums_at xs ys p h = numbered_at most_pairs (λ p. together (slice_index xs p) (slice_index ys p)) p 0 h

together_together : (d x y : ℕ) → together (together d x) y ≡ together d (together x y)
together_together d x y = omega arith

pub one_stretch : (xs ys : List ℕ) → OneStretch xs ys (sums_of xs ys)
one_stretch xs ys m f =
    same_models {a = m.left} refl (ap (λ n. numbered n (λ p. longer (slice_index ys p) (line_at (stretched xs m) p))) (stretched_pairs xs m)
    ∙ numbered_same (pairs_of m) _ _ no_line (λ p h.
    let x = get_or xs p 0 in
    let y = get_or ys p 0 in
    ap (longer y) (passed_line (stretch_passes xs m p) h)
    ∙ ap (λ d. delayed (λ _. d) (line_at m p)) (together_together (line_at m p).delay x y)
    ∙ sym (ap (λ z. longer z (line_at m p)) (sums_at xs ys p (omega (arith, f.few))))))
