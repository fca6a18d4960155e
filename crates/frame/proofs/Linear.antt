-- Division is linear: the remainder of a sum is the sum of the remainders. Assumes nothing.
use Rattle.std.proofs.Common.{◌≡◌, ℕ, zero, suc, ◌+◌, ◌*◌, ◌/◌, ◌^◌, ◌<◌, ◌≤◌, List, [], ◌∷◌, refl, arith}
use native.Mathlib.Nat.{div-eq_of_lt}
use lib.Bits.{bit_xor, xor_comm, xor_lt, xor_zero_r}
use Rattle.std.proofs.lemmas.Bool.{cases_lt}
use Rattle.std.proofs.lemmas.Bool.Decides.{nat_tests}
use Rattle.std.proofs.lemmas.Nat.{pow_pos, xor_shr, xor_mod}
use Rattle.frame.specs.Division.{reduced, stepped, divided, bits, Bits}
use Rattle.frame.proofs.Steps.{pow_next, reduced_low, widened_below, stepped_below, bits_are_bits}
use Rattle.frame.proofs.Sums.{swap_last, cancel_both, exchange, pow_xor, twice_xor}

-- a summand of a degree below d leaves the terms from x^d on as they are
pub high_same : (d t s : ℕ) → s < 2 ^ d → bit_xor t s / 2 ^ d ≡ t / 2 ^ d
high_same d t s h = cc (xor_shr t s d, div-eq_of_lt h, xor_zero_r (t / 2 ^ d))

reduced_one : (d l t s : ℕ) → 2 ^ d ≤ t → s < 2 ^ d → reduced d l (bit_xor t s) ≡ bit_xor (reduced d l t) (reduced d l s)
unfolding reduced
reduced_one d l t s hi lo = grind (arith, nat_tests, high_same d t s, pow_pos d, swap_last t s (2 ^ d + l))

-- a degree of just d: the quotient by 2^d is 1
top_one : (d t : ℕ) → 2 ^ d ≤ t → t < 2 ^ (d + 1) → t / 2 ^ d ≡ 1
top_one d t lo hi = grind (arith, pow_next d)

reduced_both : (d l t s : ℕ) → 2 ^ d ≤ t → t < 2 ^ (d + 1) → 2 ^ d ≤ s → s < 2 ^ (d + 1)
    → reduced d l (bit_xor t s) ≡ bit_xor (reduced d l t) (reduced d l s)
unfolding reduced
reduced_both d l t s ht ht' hs hs' = grind (arith, nat_tests, xor_shr t s d, top_one, pow_pos d, cancel_both t s (2 ^ d + l))

pub reduced_add : (d l t s : ℕ) → t < 2 ^ (d + 1) → s < 2 ^ (d + 1) → reduced d l (bit_xor t s) ≡ bit_xor (reduced d l t) (reduced d l s)
reduced_add d l t s ht hs =
    grind (
      arith,
      cases_lt t (2 ^ d),
      cases_lt s (2 ^ d),
      reduced_low,
      xor_lt d t s,
      reduced_one d l t s,
      reduced_one d l s t,
      reduced_both d l t s,
      xor_comm t s,
      xor_comm (reduced d l t) (reduced d l s),
    )

pub stepped_add : (d l r s b c : ℕ) → r < 2 ^ d → s < 2 ^ d → b < 2 → c < 2
    → stepped d l (bit_xor r s) (bit_xor b c) ≡ bit_xor (stepped d l r b) (stepped d l s c)
unfolding stepped
stepped_add d l r s b c hr hs hb hc =
    let sums = reduced_add d l (bit_xor (r * 2) (b * 2 ^ d)) (bit_xor (s * 2) (c * 2 ^ d)) (widened_below d r b hr hb) (widened_below d s c hs hc) in
    cc (twice_xor r s, pow_xor d b c, exchange (r * 2) (s * 2) (b * 2 ^ d) (c * 2 ^ d), sums)

-- the sum of two rows of bits, place by place
abbrev pub added : List ℕ → List ℕ → List ℕ
added [] ys = []
added (x ∷ xs) [] = []
added (x ∷ xs) (y ∷ ys) = bit_xor x y ∷ added xs ys

-- rows of one length
abbrev pub Level : List ℕ → List ℕ → Type 0
Level [] [] = Unit {0}
Level [] (y ∷ ys) = ⊥
Level (x ∷ xs) [] = ⊥
Level (x ∷ xs) (y ∷ ys) = Level xs ys

pub divided_add : (d l r s : ℕ) (xs ys : List ℕ) → l < 2 ^ d → r < 2 ^ d → s < 2 ^ d → Level xs ys → Bits xs → Bits ys
    → divided d l (bit_xor r s) (added xs ys) ≡ bit_xor (divided d l r xs) (divided d l s ys)
unfolding divided
divided_add d l r s [] [] hl hr hs e hx hy = refl
divided_add d l r s [] (y ∷ ys) hl hr hs e hx hy = absurd e
divided_add d l r s (x ∷ xs) [] hl hr hs e hx hy = absurd e
divided_add d l r s (x ∷ xs) (y ∷ ys) hl hr hs e hx hy =
    let rest = divided_add d l (stepped d l r x) (stepped d l s y) xs ys hl (stepped_below d l r x hl hr hx.0) (stepped_below d l s y hl hs hy.0) e hx.1 hy.1 in
    cc (stepped_add d l r s x y hr hs hx.0 hy.0)

-- the bits of a sum
pub bits_add : (n v w : ℕ) → bits n (bit_xor v w) ≡ added (bits n v) (bits n w)
unfolding bits
bits_add zero v w = refl
bits_add (suc n) v w =
    cc (xor_shr v w n, xor_mod (v / 2 ^ n) (w / 2 ^ n) 1, bits_add n v w)

pub bits_level : (n v w : ℕ) → Level (bits n v) (bits n w)
unfolding bits
bits_level zero v w = tt
bits_level (suc n) v w = bits_level n v w

-- the remainder over the last n bits of a sum
pub divided_bits_add : (n d l r s v w : ℕ) → l < 2 ^ d → r < 2 ^ d → s < 2 ^ d
    → divided d l (bit_xor r s) (bits n (bit_xor v w)) ≡ bit_xor (divided d l r (bits n v)) (divided d l s (bits n w))
divided_bits_add n d l r s v w hl hr hs =
    rw bits_add (divided_add d l r s (bits n v) (bits n w) hl hr hs (bits_level n v w) (bits_are_bits n v) (bits_are_bits n w))
