-- Sums of polynomials over bits: regrouped, cancelled, and multiplied by a power of x. Assumes nothing.
use Rattle.std.proofs.Common.{◌≡◌, ℕ, ◌*◌, ◌^◌, arith}
use lib.Bits.{bit_xor, xor_block, xor_assoc, xor_comm, xor_self, xor_zero_l}
use Rattle.std.proofs.lemmas.Nat.{pow_pos}

pub swap_last : (a b c : ℕ) → bit_xor (bit_xor a b) c ≡ bit_xor (bit_xor a c) b
swap_last a b c = grind (arith, xor_assoc, xor_comm)

-- what is added twice falls out
pub cancel_front : (g t : ℕ) → bit_xor g (bit_xor g t) ≡ t
cancel_front g t = cc (xor_assoc g g t, xor_self g, xor_zero_l t)

pub cancel_both : (a b g : ℕ) → bit_xor (bit_xor a g) (bit_xor b g) ≡ bit_xor a b
cancel_both a b g = grind (arith, xor_assoc, xor_comm, xor_self, xor_zero_l)

-- four summands, two and two
pub exchange : (a b c d : ℕ) → bit_xor (bit_xor a b) (bit_xor c d) ≡ bit_xor (bit_xor a c) (bit_xor b d)
exchange a b c d = grind (arith, xor_assoc, xor_comm)

-- a sum times x^k
pub pow_xor : (k a b : ℕ) → bit_xor a b * 2 ^ k ≡ bit_xor (a * 2 ^ k) (b * 2 ^ k)
pow_xor k a b = grind (arith, xor_block k a b 0 0, pow_pos k)

pub twice_xor : (a b : ℕ) → bit_xor a b * 2 ≡ bit_xor (a * 2) (b * 2)
twice_xor a b = pow_xor 1 a b
