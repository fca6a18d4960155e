-- Places of a ring lie within its share, and no two are one. Assumes nothing.
use Rattle.std.proofs.Common.{◌≡◌, ℕ, ◌+◌, ◌*◌, ◌/◌, ◌<◌, ◌≤◌, sym, ap, ◌∙◌, arith}
use Rattle.std.proofs.lemmas.Nat.{mul-add-lt, div-mul-add}
use Rattle.std.proofs.lemmas.Bool.Decides.{nat_tests}
use Rattle.reel.specs.Rings.{round, spot}

module _ (share : ℕ) where
  pub round_below : (h k : ℕ) → h ≤ share → k < share → round share h k < share
  round_below h k a b = grind (arith, nat_tests)

  pub round_apart : (h j k : ℕ) → h ≤ share → j < k → k < share → round share h j ≡ round share h k → ⊥
  round_apart h j k a b d e = grind (arith, nat_tests)

  pub round_next : (h k : ℕ) → h ≤ share → k + 1 < share → round share (round share h 1) k ≡ round share h (k + 1)
  round_next h k a b = grind (arith, nat_tests)

  pub round_within : (h : ℕ) → h ≤ share → 0 < share → round share h 1 ≤ share
  round_within h a b = grind (arith, nat_tests)

  pub spot_below : (n p h k : ℕ) → p < n → h ≤ share → k < share → spot share p h k < n * share
  spot_below n p h k l a b = omega (arith, mul-add-lt p share (round share h k) n l (round_below h k a b))

  -- a place of another pair, or an earlier one of the same
  pub spot_apart : (p q hp hq j k : ℕ) → hp ≤ share → hq ≤ share → j < share → k < share → (q ≡ p → (hq ≡ hp) × (k < j))
      → spot share q hq k ≡ spot share p hp j → ⊥
  spot_apart p q hp hq j k a b lj lk same e =
      let s : q ≡ p = sym (div-mul-add q share (round share hq k) (round_below hq k b lk)) ∙ ap (λ n. n / share) e
      ∙ div-mul-add p share (round share hp j) (round_below hp j a lj) in
      let t = same s in
      let f : round share hp k ≡ round share hp j = sym (ap (λ h. round share h k) t.0) ∙ omega (arith, e, ap (λ z. z * share) s) in
      round_apart hp k j a t.1 lj f
