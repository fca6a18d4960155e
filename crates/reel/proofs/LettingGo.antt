-- A row without the oldest byte of a pair: it is sound, and the others are as they were. Assumes nothing.
use Rattle.std.proofs.Common.{◌≡◌, ℕ, ◌+◌, ◌-◌, ◌*◌, ◌<◌, ◌≤◌, Bool, List, length, get_or, set, refl, ap, ◌∙◌, arith}
use Rattle.std.proofs.lemmas.Bool.{cases_eq}
use Rattle.cable.specs.Calls.{freed, line_after_take}
use Rattle.cable.specs.Model.{Held, Line, no_held, with_line, numbered}
use Rattle.cable.proofs.Numbered.{numbered_same, numbered_set, numbered_drop}
use Rattle.cable.proofs.Shown.{same_models}
use Rattle.reel.specs.Rings.{no_place, pair_at, ring_at, one_less, place_at, spot}
use Rattle.reel.specs.Rows.{Parts, held_in, line_of, model_of}
use Rattle.reel.specs.declared.place.Pair.{Pair}
use Rattle.reel.proofs.Changing.{pair_here, pair_there, pairs_kept}
use Rattle.reel.proofs.Putting.{line_with}
use Rattle.reel.proofs.Rounds.{round_next, round_within}
use Rattle.reel.specs.Shows.{Sound}

abbrev pub less : Bool → ℕ → Pair → Pair
less reuse share x = record { delay = x.delay; ring = one_less reuse share x.ring }

abbrev pub with_pairs : Parts → List Pair → Parts
with_pairs r pairs = record { places = r.places; pairs = pairs; share = r.share; clock = r.clock; left = r.left; reuse = r.reuse }

module _ (r : Parts) (s : Sound r) (p : ℕ) (new_pairs : List Pair) (changed : new_pairs ≡ set r.pairs p (less r.reuse r.share (pair_at r.pairs p)))
    (l : p < length r.pairs) (some : 0 < (ring_at r.pairs p).count) where
  abbrev n : Parts
  n = with_pairs r new_pairs

  here : (q : ℕ) → q ≡ p → pair_at n.pairs q ≡ less r.reuse r.share (pair_at r.pairs p)
  here q e = rw e (pair_here r.pairs n.pairs p _ changed l)

  there : (q : ℕ) → (q ≡ p → ⊥) → pair_at n.pairs q ≡ pair_at r.pairs q
  there q ne = pair_there r.pairs n.pairs p _ changed q ne

  same_length : length n.pairs ≡ length r.pairs
  same_length = pairs_kept r.pairs n.pairs p _ changed

  later : (q k : ℕ) → q ≡ p → k + 1 < (ring_at r.pairs p).count → place_at r.places n.pairs r.share q k ≡ place_at r.places r.pairs r.share p (k + 1)
  later q k e lk =
      let t = s.turned p l in
      ap (λ z. place_at r.places n.pairs r.share z k) e
      ∙ ap (λ (x : Pair). get_or r.places (spot r.share p x.ring.head k) no_place) (here p refl)
      ∙ ap (λ x. get_or r.places (p * r.share + x) no_place) (round_next r.share (ring_at r.pairs p).head k t.0 (omega arith))

  other : (q k : ℕ) → (q ≡ p → ⊥) → place_at r.places n.pairs r.share q k ≡ place_at r.places r.pairs r.share q k
  other q k ne = ap (λ (x : Pair). get_or r.places (spot r.share q x.ring.head k) no_place) (there q ne)

  freed_fits : ((ring_at r.pairs p).count - 1 ≤ freed r.reuse (ring_at r.pairs p).used) × (freed r.reuse (ring_at r.pairs p).used ≤ r.share)
  freed_fits = let t = s.turned p l in grind arith

  pub let_go_sound : Sound n
  let_go_sound = record {
    some = omega (arith, same_length, s.some);
    few = omega (arith, same_length, s.few);
    shared = rw same_length (s.shared);
    timed = s.timed;
    short = λ q. let a = here q in let b = there q in let d = cases_eq q p in let t = s.short q in grind arith;
    turned = λ q lq.
        let a = here q in
        let b = there q in
        let d = cases_eq q p in
        let t = s.turned q (omega (arith, same_length)) in
        let v = s.turned p l in
        let w = round_within r.share (ring_at r.pairs p).head v.0 in
        (grind arith, grind (arith, freed_fits), grind (arith, freed_fits));
    past = λ q k h.
        let a = here q in
        let b = there q in
        let d = cases_eq q p in
        let m = later q k in
        let o = other q k in
        let t = s.past q k in
        let u = s.past p (k + 1) in
        grind (arith, same_length);
    ordered = λ q j k h.
        let a = here q in
        let b = there q in
        let d = cases_eq q p in
        let m = later q k in
        let n = later q j in
        let o = other q k in
        let e = other q j in
        let t = s.ordered q j k in
        let u = s.ordered p (j + 1) (k + 1) in
        grind (arith, same_length);
  }

  pub let_go_model : model_of n ≡ with_line (model_of r) p (line_after_take (line_of r p))
  let_go_model =
      let f : ℕ → ℕ → Held = λ q k. held_in r.clock (place_at r.places r.pairs r.share q k) in
      let g : ℕ → ℕ → Held = λ q k. held_in r.clock (place_at r.places n.pairs r.share q k) in
      let shape : ℕ → Pair → Line = λ q x. line_with x r.share r.reuse (numbered x.ring.count (g q)) in
      let c = (ring_at r.pairs p).count in
      same_models {a = r.left} refl (ap (λ z. numbered z (line_of n)) same_length ∙ numbered_set (length r.pairs) p (line_of r) (line_of n) (line_after_take (line_of r p)) l
      (ap (shape p) (here p refl)
      ∙ ap (line_with (less r.reuse r.share (pair_at r.pairs p)) r.share r.reuse)
      (numbered_drop c (f p) (g p) no_held some (λ k lk. ap (held_in r.clock) (later p k refl (omega arith)))))
      (λ q lq ne. ap (shape q) (there q ne)
      ∙ ap (line_with (pair_at r.pairs q) r.share r.reuse)
      (numbered_same (ring_at r.pairs q).count (g q) (f q) no_held (λ k lk. ap (held_in r.clock) (other q k ne)))))
