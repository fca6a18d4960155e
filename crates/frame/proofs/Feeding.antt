-- A register fed with bits and bytes: its bound, the next byte, and parts one after the other. Assumes nothing.
use Rattle.std.proofs.Common.{◌≡◌, ℕ, ◌%◌, ◌^◌, ◌<◌, List, [], ◌∷◌, ◌++◌, sym, refl, ap, ◌∙◌, append_assoc, mod-eq_of_lt, arith, lit<}
use lib.Bits.{bit_and, and_mask}
use Rattle.std.proofs.lemmas.Nat.{mod_below, pow_pos}
use Rattle.frame.specs.Checks.{ones, fed_bits, fed, InParts, crc6_fed, crc6_end}
use Rattle.frame.specs.Division.{divided, bits, message, Bits}
use Rattle.frame.proofs.Steps.{divided_append, divided_nil, divided_below, message_are_bits}

pub fed_bits_below : (d l r : ℕ) (bs : List ℕ) → l < 2 ^ d → Bits bs → fed_bits d l r bs < 2 ^ d
unfolding fed_bits
fed_bits_below d l r bs hl hb = divided_below d l (r % 2 ^ d) bs hl (mod_below r (2 ^ d) (pow_pos d)) hb

-- a register within its d bits counts whole
pub fed_bits_within : (d l r : ℕ) (bs : List ℕ) → r < 2 ^ d → fed_bits d l r bs ≡ divided d l r bs
unfolding fed_bits
fed_bits_within d l r bs h = rw (mod-eq_of_lt h)

-- only the d lowest bits of a register count, and a mask of ones cuts them out
pub masked_in : (d l r mask : ℕ) (bs : List ℕ) → mask ≡ ones d → (fed_bits d l (bit_and r mask) bs ≡ fed_bits d l r bs) × (bit_and r mask < 2 ^ d)
unfolding fed_bits
masked_in d l r mask bs e =
    let is : bit_and r mask ≡ r % 2 ^ d = cc (and_mask r d) in
    (grind (arith, is, mod-eq_of_lt, mod_below, pow_pos d), grind (arith, is, pow_pos d))

pub fed_bits_append : (d l r : ℕ) (xs ys : List ℕ) → l < 2 ^ d → Bits xs → fed_bits d l r (xs ++ ys) ≡ fed_bits d l (fed_bits d l r xs) ys
unfolding fed_bits
fed_bits_append d l r xs ys hl hx =
    divided_append d l (r % 2 ^ d) xs ys ∙ sym (fed_bits_within d l (divided d l (r % 2 ^ d) xs) ys (fed_bits_below d l r xs hl hx))

message_append : (xs ys : List ℕ) → message (xs ++ ys) ≡ message xs ++ message ys
message_append [] ys = refl
message_append (x ∷ xs) ys = cc (message_append xs ys, append_assoc (bits 8 x) (message xs) (message ys))

-- bytes that come in two parts
pub fed_append : (d l r : ℕ) (xs ys : List ℕ) → l < 2 ^ d → fed d l r (xs ++ ys) ≡ fed d l (fed d l r xs) ys
fed_append d l r xs ys hl = ap (fed_bits d l r) (message_append xs ys) ∙ fed_bits_append d l r (message xs) (message ys) hl (message_are_bits xs)

pub in_parts : (d l r : ℕ) (bytes : List ℕ) → l < 2 ^ d → InParts d l r bytes (fed d l r bytes)
in_parts d l r bytes hl first rest e = sym (fed_append d l r first rest hl) ∙ ap (fed d l r) e

-- no bit, and no byte
pub fed_bits_nil : (d l r : ℕ) → fed_bits d l r [] ≡ r % 2 ^ d
unfolding fed_bits
fed_bits_nil d l r = divided_nil d l (r % 2 ^ d)

pub ones_below : (d : ℕ) → ones d < 2 ^ d
ones_below d = omega (arith, pow_pos d)

-- the same of CRC-6
pub crc6_fed_append : (r : ℕ) (xs ys : List ℕ) → crc6_fed r (xs ++ ys) ≡ crc6_fed (crc6_fed r xs) ys
crc6_fed_append r xs ys = fed_append 6 3 r xs ys (lit< tt)

pub crc6_end_nil : (r : ℕ) → crc6_end (crc6_fed r []) ≡ crc6_end r
crc6_end_nil r = grind (arith, fed_bits_nil)
