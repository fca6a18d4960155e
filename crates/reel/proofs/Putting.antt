-- A row after a put: it is sound, and the byte has joined its pair's. Assumes nothing.
use Rattle.std.proofs.Common.{◌≡◌, ℕ, ◌<◌, ◌≤◌, Bool, ◌⊎◌, List, [], ◌∷◌, ◌++◌, length, get_or, set, sym, refl, ap, ◌∙◌, arith, length-set}
use Rattle.std.proofs.lemmas.List.FromFn.{map-range_with_len_more}
use Rattle.std.proofs.lemmas.List.{get_or-set_same, get_or-set_other}
use Rattle.std.proofs.lemmas.Bool.{cases_eq}
use Rattle.cable.specs.Calls.{line_after_put}
use Rattle.cable.specs.Model.{Held, Line, no_held, with_line, numbered}
use Rattle.cable.proofs.Numbered.{numbered_same, numbered_set}
use Rattle.cable.proofs.Shown.{same_models}
use Rattle.reel.specs.Rings.{no_place, pair_at, ring_at, one_more, place_at, spot}
use Rattle.reel.specs.Rows.{Parts, held_in, line_of, model_of}
use Rattle.reel.specs.declared.place.Place.{Place}
use Rattle.reel.specs.declared.place.Pair.{Pair}
use Rattle.reel.proofs.Changing.{pair_here, pair_there, pairs_kept}
use Rattle.reel.proofs.Rounds.{spot_below, spot_apart}
use Rattle.reel.specs.Shows.{Sound}

-- what a pair shows, with these bytes
abbrev pub line_with : Pair → ℕ → Bool → List Held → Line
line_with x share reuse held = record { delay = x.delay; places = share; used = x.ring.used; reuse = reuse; held = held }

abbrev pub more : Pair → Pair
more x = record { delay = x.delay; ring = one_more x.ring }

abbrev pub stamped : ℕ → ℕ → Place
stamped b clock = record { byte = b; tick = clock }

-- the byte b written at i, and other pairs
abbrev pub after_put : Parts → ℕ → ℕ → List Pair → Parts
after_put r i b pairs = record { places = set r.places i (stamped b r.clock); pairs = pairs; share = r.share; clock = r.clock; left = r.left; reuse = r.reuse }

module _ (r : Parts) (s : Sound r) (p i b : ℕ) (new_pairs : List Pair) (changed : new_pairs ≡ set r.pairs p (more (pair_at r.pairs p)))
    (is : i ≡ spot r.share p (ring_at r.pairs p).head (ring_at r.pairs p).count) (l : p < length r.pairs) (room : (ring_at r.pairs p).used < r.share) where
  abbrev n : Parts
  n = after_put r i b new_pairs

  here : (q : ℕ) → q ≡ p → pair_at n.pairs q ≡ more (pair_at r.pairs q)
  here q e = rw e (pair_here r.pairs n.pairs p _ changed l)

  there : (q : ℕ) → (q ≡ p → ⊥) → pair_at n.pairs q ≡ pair_at r.pairs q
  there q ne = pair_there r.pairs n.pairs p _ changed q ne

  same_length : length n.pairs ≡ length r.pairs
  same_length = pairs_kept r.pairs n.pairs p _ changed

  head_kept : (q : ℕ) → (ring_at n.pairs q).head ≡ (ring_at r.pairs q).head
  head_kept q = let a = here q in let b = there q in let d = cases_eq q p in grind arith

  -- a byte was there before, or is the new one
  which : (q k : ℕ) → k < (ring_at n.pairs q).count → (k < (ring_at r.pairs q).count) ⊎ ((q ≡ p) × (k ≡ (ring_at r.pairs p).count))
  which q k h = let a = here q in let b = there q in let d = cases_eq q p in grind arith

  old : (q k : ℕ) → q < length r.pairs → k < (ring_at r.pairs q).count → place_at n.places n.pairs r.share q k ≡ place_at r.places r.pairs r.share q k
  old q k lq lk =
      let hp = s.turned p l in
      let hq = s.turned q lq in
      ap (λ h. get_or n.places (spot r.share q h k) no_place) (head_kept q)
      ∙ get_or-set_other r.places i (spot r.share q (ring_at r.pairs q).head k) (stamped b r.clock) no_place
      (λ e. spot_apart r.share p q (ring_at r.pairs p).head (ring_at r.pairs q).head (ring_at r.pairs p).count k hp.0 hq.0 (omega arith) (omega arith)
      (λ same. (ap (λ z. (ring_at r.pairs z).head) same, omega (arith, ap (λ z. (ring_at r.pairs z).count) same))) (e ∙ is))

  new : (q k : ℕ) → q ≡ p → k ≡ (ring_at r.pairs p).count → place_at n.places n.pairs r.share q k ≡ stamped b r.clock
  new q k e f =
      let t = s.turned p l in
      let below : i < length r.places = omega (arith, is, s.shared, spot_below r.share (length r.pairs) p (ring_at r.pairs p).head (ring_at r.pairs p).count l t.0 (omega arith)) in
      ap (λ z. place_at n.places n.pairs r.share z k) e ∙ ap (place_at n.places n.pairs r.share p) f
      ∙ ap (λ h. get_or n.places (spot r.share p h (ring_at r.pairs p).count) no_place) (head_kept p)
      ∙ ap (λ z. get_or n.places z no_place) (sym is)
      ∙ get_or-set_same r.places i (stamped b r.clock) no_place below

  past : (q k : ℕ) → (q < length r.pairs) × (k < (ring_at n.pairs q).count) → (place_at n.places n.pairs r.share q k).tick ≤ r.clock
  past q k h = let w = which q k h.1 in let a = old q k h.0 in let b = new q k in let t = s.past q k in grind arith

  pub put_sound : Sound n
  put_sound = record {
    some = omega (arith, same_length, s.some);
    few = omega (arith, same_length, s.few);
    shared = rw same_length (omega (arith, s.shared, length-set r.places i (stamped b r.clock)));
    timed = s.timed;
    short = λ q. let a = here q in let b = there q in let d = cases_eq q p in let t = s.short q in grind arith;
    turned = λ q lq.
        let a = here q in
        let b = there q in
        let d = cases_eq q p in
        let t = s.turned q (omega (arith, same_length)) in
        (grind arith, grind arith, grind arith);
    past = λ q k h. past q k (omega (arith, same_length), h.1);
    ordered = λ q j k h.
        let lq : q < length r.pairs = omega (arith, same_length) in
        let w = which q k h.2 in
        let a = old q k lq in
        let b = old q j lq in
        let m = new q k in
        let t = s.ordered q j k in
        let u = past q j in
        grind arith;
  }

  pub put_model : model_of n ≡ with_line (model_of r) p (line_after_put (line_of r p) b)
  put_model =
      let f : ℕ → ℕ → Held = λ q k. held_in r.clock (place_at r.places r.pairs r.share q k) in
      let g : ℕ → ℕ → Held = λ q k. held_in r.clock (place_at n.places n.pairs r.share q k) in
      let shape : ℕ → Pair → Line = λ q x. line_with x r.share r.reuse (numbered x.ring.count (g q)) in
      let same : (q : ℕ) → q < length r.pairs → numbered (ring_at r.pairs q).count (g q) ≡ numbered (ring_at r.pairs q).count (f q)
      = λ q lq. numbered_same (ring_at r.pairs q).count (g q) (f q) no_held (λ k lk. ap (held_in r.clock) (old q k lq lk)) in
      let fresh : held_in r.clock (stamped b r.clock) ≡ record { byte = b; age = 0 } = ap (λ (a : ℕ). record { byte = b; age = a }) (omega arith) in
      let c = (ring_at r.pairs p).count in
      same_models {a = r.left} refl (ap (λ z. numbered z (line_of n)) same_length ∙ numbered_set (length r.pairs) p (line_of r) (line_of n) (line_after_put (line_of r p) b) l
      (ap (shape p) (here p refl)
      ∙ ap (line_with (more (pair_at r.pairs p)) r.share r.reuse)
      (map-range_with_len_more (g p) 0 c c (omega arith)
      ∙ ap (λ h. h ++ (g p c ∷ [])) (same p l)
      ∙ ap (λ x. numbered c (f p) ++ (x ∷ [])) (ap (held_in r.clock) (new p c refl refl) ∙ fresh)))
      (λ q lq ne. ap (shape q) (there q ne) ∙ ap (line_with (pair_at r.pairs q) r.share r.reuse) (same q lq)))
