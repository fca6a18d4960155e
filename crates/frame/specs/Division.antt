-- Division of polynomials over bits. A number stands for a polynomial: its bit of weight 2^k is the coefficient of x^k,
-- so that bit_xor both adds and subtracts. A divisor is x^d + l, where l has a degree below d. Assumes nothing.
use Rattle.std.specs.Prelude.{◌≡◌, ℕ, zero, suc, ◌+◌, ◌*◌, ◌/◌, ◌%◌, ◌^◌, ◌<◌, cond, List, [], ◌∷◌, ◌++◌, map, bit_xor, nat_lt}
use Rattle.std.specs.List.{range_with_len}

-- t, of a degree of at most d, less the divisor where t has the term x^d
unfoldable pub reduced : ℕ → ℕ → ℕ → ℕ
reduced d l t = cond (nat_lt t (2 ^ d)) t (bit_xor t (2 ^ d + l))

-- one step of the division: the remainder so far times x, plus the next bit of the message times x^d
unfoldable pub stepped : ℕ → ℕ → ℕ → ℕ → ℕ
stepped d l r b = reduced d l (bit_xor (r * 2) (b * 2 ^ d))

-- the remainder after more bits of the message, the first of them first
unfoldable pub divided : ℕ → ℕ → ℕ → List ℕ → ℕ
divided d l r [] = r
divided d l r (b ∷ bs) = divided d l (stepped d l r b) bs

-- the last n bits of a number, most significant first
unfoldable pub bits : ℕ → ℕ → List ℕ
bits zero v = []
bits (suc n) v = v / 2 ^ n % 2 ∷ bits n v

-- what a remainder of 0 becomes by each row of n bits, in the order of the numbers that these are
abbrev pub after_each : ℕ → ℕ → ℕ → List ℕ
after_each d l n = map (λ v. divided d l 0 (bits n v)) (range_with_len 0 (2 ^ n))

-- the bits of a row of bytes
abbrev pub message : List ℕ → List ℕ
message [] = []
message (byte ∷ bytes) = bits 8 byte ++ message bytes

-- a row of bits
abbrev pub Bits : List ℕ → Type 0
Bits [] = Unit {0}
Bits (b ∷ bs) = (b < 2) × Bits bs

-- the polynomial whose coefficients are some bits, the highest first, after those of a
abbrev pub polynomial : ℕ → List ℕ → ℕ
polynomial a [] = a
polynomial a (b ∷ bs) = polynomial (bit_xor (a * 2) b) bs

-- the product of g and the polynomial of some bits, after a product a
abbrev pub product : ℕ → ℕ → List ℕ → ℕ
product g a [] = a
product g a (q ∷ qs) = product g (bit_xor (a * 2) (q * g)) qs

-- r is the remainder of a division of a by x^d + l: its degree is below d, and a is r plus a multiple of the divisor
abbrev pub Remainder : ℕ → ℕ → ℕ → ℕ → Type 0
Remainder d l a r = (r < 2 ^ d) × ((quotient : List ℕ) × Bits quotient × (bit_xor (product (2 ^ d + l) 0 quotient) r ≡ a))
