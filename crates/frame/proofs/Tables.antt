-- Several bits at once by a table. Assumes nothing.
use Rattle.std.proofs.Common.{◌≡◌, ℕ, zero, suc, ◌+◌, ◌-◌, ◌*◌, ◌/◌, ◌%◌, ◌^◌, ◌<◌, ◌≤◌, get_or, refl, mod-eq_of_lt, arith}
use lib.Bits.{bit_and, bit_xor, and_mask, xor_block, xor_lt, xor_self, xor_zero_l, xor_zero_r}
use Rattle.std.proofs.Math.Pow.{mod-mod-pow}
use Rattle.std.proofs.Math.Nat.{mul-div_cancel, mul-mod_left}
use Rattle.std.proofs.lemmas.List.FromFn.{get_or-map-range_with_len}
use Rattle.std.proofs.lemmas.Nat.{pow-add, pow_pos, mod_below, mod-pow-add, shl_below, shl-shr, one_shl, field_of, xor_mod}
use Rattle.frame.specs.Division.{stepped, divided, bits, after_each}
use Rattle.frame.specs.Checks.{fed_bits}
use Rattle.frame.proofs.Steps.{pow_next, reduced_low, bits_split, divided_append}
use Rattle.frame.proofs.Linear.{divided_bits_add}

-- a register, of d bits, that becomes 0 with itself as the first of m bits: with any m bits it is then what a register of
-- zeros is with their sum
pub one_look_up : (d l m j : ℕ) → l < 2 ^ d → ((r : ℕ) → r < 2 ^ d → divided d l r (bits m (r * 2 ^ j)) ≡ 0)
    → (r v : ℕ) → r < 2 ^ d → divided d l 0 (bits m (bit_xor (r * 2 ^ j) v)) ≡ divided d l r (bits m v)
one_look_up d l m j hl falls r v h =
    cc (xor_self r, divided_bits_add m d l r r (r * 2 ^ j) v hl h h, falls r h, xor_zero_l (divided d l r (bits m v)))

-- the last k + 1 bits of a number, the first of them apart
cut_next : (v k : ℕ) → v % 2 ^ suc k ≡ v / 2 ^ k % 2 * 2 ^ k + v % 2 ^ k
cut_next v k = grind (arith, mod-pow-add v 1 k)

-- bits that are all 0 leave a register of zeros
zeros_leave : (d l n v : ℕ) → v % 2 ^ n ≡ 0 → divided d l 0 (bits n v) ≡ 0
unfolding divided stepped bits
zeros_leave d l zero v e = refl
zeros_leave d l (suc n) v e =
    let bit : v / 2 ^ n % 2 ≡ 0 = grind (arith, cut_next v n, pow_pos n) in
    let rest : v % 2 ^ n ≡ 0 = grind (arith, cut_next v n) in
    grind (arith, bit, xor_zero_l, reduced_low d l 0 (pow_pos d), zeros_leave d l n v rest)

-- a register that comes as the first bits takes itself out, one bit after the other
takes_itself_out : (d l r k j : ℕ) → k + j ≡ d → divided d l (r % 2 ^ k * 2 ^ j) (bits k r) ≡ 0
unfolding divided stepped bits
takes_itself_out d l r zero j e = grind arith
takes_itself_out d l r (suc k) j e =
    let b = r / 2 ^ k % 2 in
    let s = r % 2 ^ k * 2 ^ (j + 1) in
    let place : k + (j + 1) ≡ d = omega arith in
    let whole : 2 ^ k * (2 ^ j * 2) ≡ 2 ^ d = rw (← place, pow-add, pow-add) refl in
    let wide : r % 2 ^ suc k * 2 ^ j * 2 ≡ b * 2 ^ d + s = rw (cut_next r k, pow_next j, ← whole) (omega arith) in
    let low : s < 2 ^ d = rw place at (shl_below (r % 2 ^ k) k (j + 1) (mod_below r (2 ^ k) (pow_pos k))) in
    let gone : bit_xor (r % 2 ^ suc k * 2 ^ j * 2) (b * 2 ^ d) ≡ s = rw wide (grind (arith, xor_block d b b s 0, xor_self, xor_zero_r, pow_pos d)) in
    cc (gone, reduced_low d l s low, takes_itself_out d l r k (j + 1) place)

pub falls_out : (d l m r : ℕ) → d ≤ m → r < 2 ^ d → divided d l r (bits m (r * 2 ^ (m - d))) ≡ 0
falls_out d l m r h hr =
    let j = m - d in
    let v = r * 2 ^ j in
    let first : r % 2 ^ d * 2 ^ 0 ≡ r = omega (arith, mod-eq_of_lt hr) in
    let split = bits_split d j m v (omega arith) in
    let parts = divided_append d l r (bits d (v / 2 ^ j)) (bits j v) in
    let out = takes_itself_out d l r d 0 (omega arith) in
    let rest = zeros_leave d l j v (mul-mod_left r (2 ^ j)) in
    cc (mul-div_cancel r (pow_pos j))

-- of a number only the last m bits count as those
bits_cut : (m n v : ℕ) → n ≤ m → bits n (v % 2 ^ m) ≡ bits n v
unfolding bits
bits_cut m zero v h = refl
bits_cut m (suc n) v h = grind (arith, field_of v (m - n) n, mod-mod-pow (v / 2 ^ n) (m - n - 1) 1, bits_cut m n v)

-- where the code looks: at the sum of the register, over the first bits, and the number
abbrev pub index : ℕ → ℕ → ℕ → ℕ → ℕ
index d m r v = bit_and (bit_xor ((r * 2 ^ (m - d)) % 2 ^ 64) v) ((1 * 2 ^ m) % 2 ^ 64 - 1)

module _ (d l m r v : ℕ) (fits : d ≤ m) (few : m < 64) where
  summed : index d m r v ≡ bit_xor (r % 2 ^ d * 2 ^ (m - d)) (v % 2 ^ m)
  summed =
      let j = m - d in
      let shifted : (r * 2 ^ j) % 2 ^ 64 % 2 ^ m ≡ r % 2 ^ d * 2 ^ j
      = grind (arith, mod-mod-pow (r * 2 ^ j) (64 - m) m, mod-pow-add (r * 2 ^ j) d j, shl-shr r j, mul-mod_left r (2 ^ j)) in
      cc (one_shl m 64 few, and_mask (bit_xor ((r * 2 ^ j) % 2 ^ 64) v) m, xor_mod ((r * 2 ^ j) % 2 ^ 64) v m)

  pub index_below : index d m r v < 2 ^ m
  index_below = grind (arith, summed, xor_lt m (r % 2 ^ d * 2 ^ (m - d)) (v % 2 ^ m), shl_below (r % 2 ^ d) d (m - d), mod_below, pow_pos)

  pub looked_up : l < 2 ^ d → get_or (after_each d l m) (index d m r v) 0 ≡ fed_bits d l r (bits m v)
  unfolding fed_bits
  looked_up hl =
      let at = get_or-map-range_with_len (λ b. divided d l 0 (bits m b)) 0 (2 ^ m) (index d m r v) (index d m r v) 0 index_below (omega arith) in
      let out = one_look_up d l m (m - d) hl (λ s h. falls_out d l m s fits h) (r % 2 ^ d) (v % 2 ^ m) (mod_below r (2 ^ d) (pow_pos d)) in
      cc (summed, bits_cut m m v (omega arith))
