-- One step of a division and a row of them: bounds, and what the code's shifts at 64 bits come to. Assumes nothing.
use Rattle.std.proofs.Common.{◌≡◌, ℕ, zero, suc, ◌+◌, ◌-◌, ◌*◌, ◌/◌, ◌%◌, ◌^◌, ◌<◌, ◌≤◌, List, [], ◌∷◌, ◌++◌, refl, ap, arith}
use lib.Bits.{bit_and, bit_xor, and_mask, xor_block, xor_lt}
use Rattle.std.proofs.lemmas.Bool.Decides.{nat_tests}
use Rattle.std.proofs.lemmas.Nat.{shl_whole, one_shl, shl_below, shr-shr, mod_below, pow_pos, pow-add}
use Rattle.frame.specs.Division.{reduced, stepped, divided, bits, message, Bits}

pub above_from_shr : (t d : ℕ) → (t / 2 ^ d ≡ 0 → ⊥) → 2 ^ d ≤ t
above_from_shr t d h = grind (arith, pow_pos d)

-- 2^(d+1), as omega reads it
pub pow_next : (d : ℕ) → 2 ^ (d + 1) ≡ 2 ^ d * 2
pow_next d = pow-add 2 d 1

pub reduced_low : (d l t : ℕ) → t < 2 ^ d → reduced d l t ≡ t
unfolding reduced
reduced_low d l t h = grind (arith, nat_tests)

pub reduced_high : (d l t : ℕ) → 2 ^ d ≤ t → reduced d l t ≡ bit_xor t (2 ^ d + l)
unfolding reduced
reduced_high d l t h = grind (arith, nat_tests)

-- a remainder times x, plus a bit times x^d, has a degree of at most d
pub widened_below : (d r b : ℕ) → r < 2 ^ d → b < 2 → bit_xor (r * 2) (b * 2 ^ d) < 2 ^ (d + 1)
widened_below d r b hr hb = grind (arith, xor_lt (d + 1) (r * 2) (b * 2 ^ d), shl_below r d 1, shl_below b 1 d)

-- the divisor taken away leaves a degree below d
pub taken_away : (d l t : ℕ) → l < 2 ^ d → 2 ^ d ≤ t → t < 2 ^ (d + 1) → bit_xor t (2 ^ d + l) < 2 ^ d
taken_away d l t hl lo hi = grind (arith, xor_block d 1 1 (t - 2 ^ d) l, xor_lt d (t - 2 ^ d) l, pow_next d)

pub reduced_below : (d l t : ℕ) → l < 2 ^ d → t < 2 ^ (d + 1) → reduced d l t < 2 ^ d
unfolding reduced
reduced_below d l t hl ht = grind (arith, nat_tests, taken_away)

pub stepped_below : (d l r b : ℕ) → l < 2 ^ d → r < 2 ^ d → b < 2 → stepped d l r b < 2 ^ d
unfolding stepped
stepped_below d l r b hl hr hb = reduced_below d l (bit_xor (r * 2) (b * 2 ^ d)) hl (widened_below d r b hr hb)

-- the code's two shifts at 64 bits, and its step of the division
abbrev pub widened : ℕ → ℕ → ℕ → ℕ
widened d r b = bit_xor ((r * 2) % 2 ^ 64) ((b * 2 ^ d) % 2 ^ 64)

module _ (d l r b : ℕ) (most : d < 64) (hl : l < 2 ^ d) (hr : r < 2 ^ d) (hb : b < 2) where
  widened_is : widened d r b ≡ bit_xor (r * 2) (b * 2 ^ d)
  widened_is = grind (arith, shl_whole r d 1 64, shl_whole b 1 d 64)

  pub step_low : widened d r b / 2 ^ d ≡ 0 → widened d r b ≡ stepped d l r b
  unfolding stepped
  step_low h = grind (arith, widened_is, pow_pos d, reduced_low)

  pub step_high : (widened d r b / 2 ^ d ≡ 0 → ⊥) → bit_xor (widened d r b) ((1 * 2 ^ d) % 2 ^ 64 + l) ≡ stepped d l r b
  unfolding stepped
  step_high h = grind (arith, widened_is, above_from_shr (widened d r b) d, one_shl d 64, reduced_high)

-- the code's mask
pub masked : (d r : ℕ) → d < 64 → bit_and r ((1 * 2 ^ d) % 2 ^ 64 - 1) ≡ r % 2 ^ d
masked d r h = rw one_shl (and_mask r d)

-- the bits of v, one taken off the front
pub bits_next : (v k : ℕ) → 0 < k → bits k v ≡ v / 2 ^ (k - 1) % 2 ∷ bits (k - 1) v
unfolding bits
bits_next v zero h = grind arith
bits_next v (suc k) h = grind arith

pub bits_none : (v k : ℕ) → k ≤ 0 → bits k v ≡ []
unfolding bits
bits_none v k h = grind arith

-- the first m of m + j bits, and the rest
pub bits_split : (m j t v : ℕ) → m + j ≡ t → bits t v ≡ bits m (v / 2 ^ j) ++ bits j v
unfolding bits
bits_split zero j t v e = grind arith
bits_split (suc m) j zero v e = grind arith
bits_split (suc m) j (suc t) v e = grind (arith, shr-shr v j m, bits_split m j t v)

-- each bit is 0 or 1
pub bits_are_bits : (n v : ℕ) → Bits (bits n v)
unfolding bits
bits_are_bits zero v = tt
bits_are_bits (suc n) v = (mod_below (v / 2 ^ n) 2 (omega arith), bits_are_bits n v)

pub append_are_bits : (xs ys : List ℕ) → Bits xs → Bits ys → Bits (xs ++ ys)
append_are_bits [] ys hx hy = hy
append_are_bits (x ∷ xs) ys hx hy = (hx.0, append_are_bits xs ys hx.1 hy)

pub message_are_bits : (bytes : List ℕ) → Bits (message bytes)
message_are_bits [] = tt
message_are_bits (b ∷ bs) = append_are_bits (bits 8 b) (message bs) (bits_are_bits 8 b) (message_are_bits bs)

pub divided_nil : (d l r : ℕ) → divided d l r [] ≡ r
unfolding divided
divided_nil d l r = refl

-- bits that come in two parts
pub divided_append : (d l r : ℕ) (xs ys : List ℕ) → divided d l r (xs ++ ys) ≡ divided d l (divided d l r xs) ys
unfolding divided
divided_append d l r [] ys = refl
divided_append d l r (x ∷ xs) ys = divided_append d l (stepped d l r x) xs ys

pub divided_below : (d l r : ℕ) (bs : List ℕ) → l < 2 ^ d → r < 2 ^ d → Bits bs → divided d l r bs < 2 ^ d
unfolding divided
divided_below d l r [] hl hr hb = hr
divided_below d l r (b ∷ bs) hl hr hb = divided_below d l (stepped d l r b) bs hl (stepped_below d l r b hl hr hb.0) hb.1

-- one turn of the loop over the bits, and its end
pub divided_next : (d l r v k : ℕ) → 0 < k → divided d l r (bits k v) ≡ divided d l (stepped d l r (v / 2 ^ (k - 1) % 2)) (bits (k - 1) v)
unfolding divided
divided_next d l r v k h = ap (divided d l r) (bits_next v k h)

pub divided_none : (d l r v k : ℕ) → k ≤ 0 → divided d l r (bits k v) ≡ r
unfolding divided
divided_none d l r v k h = ap (divided d l r) (bits_none v k h)
