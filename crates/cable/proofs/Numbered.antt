-- Lists made from a function of the place. Assumes nothing.
use mathlib.Core.List.{map-map}
use Rattle.std.proofs.Common.{◌≡◌, ℕ, ◌+◌, ◌-◌, ◌<◌, ◌≤◌, List, map, length, get_or, drop, set, sym, ◌∙◌, arith, length-set}
use Rattle.std.proofs.lemmas.List.FromFn.{fill_by_all, length-map-range_with_len, get_or-map-range_with_len}
use Rattle.std.proofs.lemmas.List.{get_or_past, get_or-set_same, get_or-set_other, length-drop, get_or-drop}
use Rattle.std.proofs.lemmas.Bool.{cases_eq}
use Rattle.cable.specs.Model.{numbered}

module _ {X : Type 0} where
  pub numbered_length : (n : ℕ) (f : ℕ → X) → length (numbered n f) ≡ n
  numbered_length n f = length-map-range_with_len f 0 n

  pub numbered_at : (n : ℕ) (f : ℕ → X) (p : ℕ) (d : X) → p < n → get_or (numbered n f) p d ≡ f p
  numbered_at n f p d h = get_or-map-range_with_len f 0 n p p d h (omega arith)

  pub numbered_past : (n : ℕ) (f : ℕ → X) (p : ℕ) (d : X) → n ≤ p → get_or (numbered n f) p d ≡ d
  numbered_past n f p d h = get_or_past (numbered n f) p d (omega (arith, numbered_length n f))

  -- a list is numbered by what stands in it
  pub numbered_by : (xs : List X) (n : ℕ) (f : ℕ → X) (d : X) → length xs ≡ n → ((q : ℕ) → q < n → get_or xs q d ≡ f q) → xs ≡ numbered n f
  numbered_by xs n f d e h = fill_by_all f xs n d e h

  pub numbered_same : (n : ℕ) (f g : ℕ → X) (d : X) → ((q : ℕ) → q < n → f q ≡ g q) → numbered n f ≡ numbered n g
  numbered_same n f g d h = numbered_by (numbered n f) n g d (numbered_length n f) (λ q k. numbered_at n f q d k ∙ h q k)

  -- one place changed
  pub numbered_set : (n p : ℕ) (f g : ℕ → X) (v : X) → p < n → g p ≡ v → ((q : ℕ) → q < n → (q ≡ p → ⊥) → g q ≡ f q)
      → numbered n g ≡ set (numbered n f) p v
  numbered_set n p f g v l here there =
      sym (numbered_by (set (numbered n f) p v) n g v (simp (length-set, numbered_length))
      (λ q k. grind (arith, cases_eq q p, there q k, get_or-set_same, get_or-set_other, numbered_at, numbered_length)))

  -- the first left out
  pub numbered_drop : (n : ℕ) (f g : ℕ → X) (d : X) → 0 < n → ((k : ℕ) → k < n - 1 → g k ≡ f (k + 1)) → numbered (n - 1) g ≡ drop 1 (numbered n f)
  numbered_drop n f g d some next =
      sym (numbered_by (drop 1 (numbered n f)) (n - 1) g d (simp (length-drop, numbered_length))
      (λ k l. grind (arith, get_or-drop 1 (numbered n f) k d, numbered_at n f (k + 1) d, next k l)))

pub numbered_map : {X Y : Type 0} (g : X → Y) (n : ℕ) (f : ℕ → X) (d : X) → map g (numbered n f) ≡ numbered n (λ q. g (f q))
numbered_map g n f d = simp map-map
