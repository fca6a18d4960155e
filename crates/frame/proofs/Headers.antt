-- What the parts of a header come to, and the laws of headers. Assumes nothing.
use Rattle.std.proofs.Common.{◌≡◌, ℕ, ◌+◌, ◌*◌, ◌/◌, ◌%◌, ◌^◌, ◌<◌, false, eqb, Ok, Err, refl, ap, rules, arith, lit<}
use lib.Bits.{bit_xor}
use Rattle.std.proofs.lemmas.Nat.{xor_shr, xor_mod}
use Rattle.std.proofs.lemmas.Bool.{eqb-false, agree_below_at}
use Rattle.std.proofs.lemmas.Bool.Decides.{nat_tests}
use Rattle.frame.specs.declared.header.Fields.{Fields}
use Rattle.frame.specs.Checks.{fed_bits, crc4_of}
use Rattle.frame.specs.Division.{reduced, stepped, divided, bits}
use Rattle.frame.specs.Header.{bit_of, sf_of, in6_of, twelve_of, header_of, read_of, written}
use Rattle.frame.specs.Refusals.{crc4_refused}
use Rattle.frame.proofs.Feeding.{fed_bits_below}
use Rattle.frame.proofs.Linear.{divided_bits_add}
use Rattle.frame.proofs.Steps.{bits_are_bits}
use Rattle.frame.proofs.Sums.{cancel_front}

pub sf_below : (f : ℕ) → sf_of f < 2
sf_below f = grind (arith, nat_tests)

pub in6_below : (f : ℕ) → in6_of f < 2
in6_below f = grind (arith, nat_tests)

pub crc4_below : (v : ℕ) → crc4_of v < 16
crc4_below v = fed_bits_below 4 3 15 (bits 12 v) (lit< tt) (bits_are_bits 12 v)

-- where the parts of a header x stand: SF, C6, In6, Data and CRC-4 as numbers s, c, i, d and k
record Stands (s c i d k x : ℕ) : Type 0 where
  crc4 : x % 2 ^ 4 ≡ k
  twelve : x / 2 ^ 4 ≡ (s * 2 ^ 7 + c * 2 ^ 6 + i * 2 ^ 5 + d / 2 ^ 3) * 2 ^ 4 + d % 2 ^ 3
  first_sf : x / 2 ^ 15 ≡ s
  second_sf : x / 2 ^ 7 % 2 ≡ 0
  c6 : x / 2 ^ 14 % 2 ≡ c
  in6 : x / 2 ^ 13 % 2 ≡ i
  byte : x / 2 ^ 8 % 2 ^ 5 * 2 ^ 3 + x / 2 ^ 4 % 2 ^ 3 ≡ d

-- in a header that was written
written_stands : (f c d : ℕ) → d < 256 → Stands (sf_of f) (bit_of c) (in6_of f) d (crc4_of (twelve_of f c d)) (header_of f c d)
unfolding header_of
written_stands f c d h =
    let s = sf_below f in
    let i = in6_below f in
    let k = crc4_below (twelve_of f c d) in
    search rules

crc4_right_lem : (f c d : ℕ) → d < 256 → header_of f c d % 2 ^ 4 ≡ crc4_of (header_of f c d / 2 ^ 4)
crc4_right_lem f c d h = let x = written_stands f c d h in cc

-- read after write gives back the C6 bit, the frame's In6 bit and Data
pub read_back : (f c d : ℕ) → d < 256 → read_of f (header_of f c d) ≡ Ok (written f c d)
unfolding read_of
read_back f c d h = grind (arith, nat_tests, written_stands f c d h, crc4_right_lem f c d h)

-- two different pairs of C6 and Data never give one header of one frame
pub told_apart : (f c d c' d' : ℕ) → d < 256 → d' < 256 → header_of f c d ≡ header_of f c' d' → (bit_of c ≡ bit_of c') × (d ≡ d')
told_apart f c d c' d' h h' e =
    let same : written f c d ≡ written f c' d' = cc (read_back f c d h, read_back f c' d' h') in
    (ap (λ (x : Fields). x.c6) same, ap (λ (x : Fields). x.«data») same)

-- the CRC-4 of a sum, and the register of zeros with the changed bits
crc4_add : (v e : ℕ) → crc4_of (bit_xor v e) ≡ bit_xor (crc4_of v) (divided 4 3 0 (bits 12 e))
unfolding fed_bits
crc4_add v e = divided_bits_add 12 4 3 15 0 v e (lit< tt) (lit< tt) (lit< tt)

-- a header whose CRC-4 is right, with the bits of e changed, is refused unless e by itself would be right from a register of 0
changed : (x e : ℕ) → x % 2 ^ 4 ≡ crc4_of (x / 2 ^ 4) → bit_xor x e % 2 ^ 4 ≡ crc4_of (bit_xor x e / 2 ^ 4)
    → e % 2 ^ 4 ≡ divided 4 3 0 (bits 12 (e / 2 ^ 4))
changed x e right still =
    let k = crc4_of (x / 2 ^ 4) in
    let b = divided 4 3 0 (bits 12 (e / 2 ^ 4)) in
    cc (xor_mod x e 4, xor_shr x e 4, crc4_add (x / 2 ^ 4) (e / 2 ^ 4), cancel_front k (e % 2 ^ 4), cancel_front k b)

-- one bit by itself would not, as antt computes
one_bit : (k : ℕ) → k < 16 → 2 ^ k % 2 ^ 4 ≡ divided 4 3 0 (bits 12 (2 ^ k / 2 ^ 4)) → ⊥
unfolding reduced stepped divided bits
one_bit k h = eqb-false _ _ (agree_below_at (λ j. eqb (2 ^ j % 2 ^ 4) (divided 4 3 0 (bits 12 (2 ^ j / 2 ^ 4)))) (λ _. false) 16 k refl h)

-- a header with one bit changed has a wrong CRC-4
pub changed_bit_refused : (f c d k : ℕ) → d < 256 → k < 16 → read_of f (bit_xor (header_of f c d) (2 ^ k)) ≡ Err crc4_refused
unfolding read_of
changed_bit_refused f c d k hd hk = grind (arith, nat_tests, one_bit k, changed (header_of f c d) (2 ^ k), crc4_right_lem f c d)
