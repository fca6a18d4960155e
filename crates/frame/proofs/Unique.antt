-- A division leaves one remainder and no other. Assumes nothing.
use Rattle.std.proofs.Common.{◌≡◌, ℕ, zero, suc, ◌+◌, ◌*◌, ◌^◌, ◌<◌, ◌≤◌, List, [], ◌∷◌, length, refl, ◌∙◌, arith}
use lib.Bits.{bit_xor, xor_comm, xor_lt, xor_self, xor_zero_l, xor_zero_r}
use Rattle.frame.specs.Checks.{RemaindersUnique}
use Rattle.frame.specs.Division.{Bits, product}
use Rattle.frame.proofs.Linear.{high_same, added, Level}
use Rattle.frame.proofs.Steps.{pow_next}
use Rattle.frame.proofs.Sums.{cancel_front, cancel_both, exchange, twice_xor}

-- a multiple that has a term from x^d on keeps one, step by step
high_step : (d l a q : ℕ) → l < 2 ^ d → q < 2 → 2 ^ d ≤ a → 2 ^ d ≤ bit_xor (a * 2) (q * (2 ^ d + l))
high_step d l a q hl hq ha = grind (arith, high_same (d + 1) (a * 2) (q * (2 ^ d + l)), pow_next d)

stays_high : (d l a : ℕ) (qs : List ℕ) → l < 2 ^ d → Bits qs → 2 ^ d ≤ a → 2 ^ d ≤ product (2 ^ d + l) a qs
stays_high d l a [] hl hq ha = ha
stays_high d l a (q ∷ qs) hl hq ha = stays_high d l (bit_xor (a * 2) (q * (2 ^ d + l))) qs hl hq.1 (high_step d l a q hl hq.0 ha)

-- so a multiple of a degree below d is 0
none_below : (d l : ℕ) (qs : List ℕ) → l < 2 ^ d → Bits qs → product (2 ^ d + l) 0 qs < 2 ^ d → product (2 ^ d + l) 0 qs ≡ 0
none_below d l [] hl hq h = refl
none_below d l (zero ∷ qs) hl hq h = grind (arith, xor_zero_l, none_below d l qs hl hq.1)
none_below d l (suc zero ∷ qs) hl hq h = grind (arith, xor_zero_l, stays_high d l (2 ^ d + l) qs hl hq.1)
none_below d l (suc (suc q) ∷ qs) hl hq h = absurd (omega (arith, hq.0))

-- the sum of two multiples is a multiple
bits_times : (g x y : ℕ) → x < 2 → y < 2 → bit_xor x y * g ≡ bit_xor (x * g) (y * g)
bits_times g zero y hx hy = grind (arith, xor_zero_l)
bits_times g (suc x) zero hx hy = grind (arith, xor_zero_r)
bits_times g (suc x) (suc y) hx hy = grind (arith, xor_self)

product_add : (g a b : ℕ) (xs ys : List ℕ) → Level xs ys → Bits xs → Bits ys → product g (bit_xor a b) (added xs ys) ≡ bit_xor (product g a xs) (product g b ys)
product_add g a b [] [] e hx hy = refl
product_add g a b [] (y ∷ ys) e hx hy = absurd e
product_add g a b (x ∷ xs) [] e hx hy = absurd e
product_add g a b (x ∷ xs) (y ∷ ys) e hx hy =
    let rest = product_add g (bit_xor (a * 2) (x * g)) (bit_xor (b * 2) (y * g)) xs ys e hx.1 hy.1 in
    cc (twice_xor a b, bits_times g x y hx.0 hy.0, exchange (a * 2) (b * 2) (x * g) (y * g))

added_are_bits : (xs ys : List ℕ) → Bits xs → Bits ys → Bits (added xs ys)
added_are_bits [] ys hx hy = tt
added_are_bits (x ∷ xs) [] hx hy = tt
added_are_bits (x ∷ xs) (y ∷ ys) hx hy = (xor_lt 1 x y hx.0 hy.0, added_are_bits xs ys hx.1 hy.1)

-- zeros in front of a quotient's coefficients, so that two quotients are of one length
padded : ℕ → List ℕ → List ℕ
padded zero qs = qs
padded (suc n) qs = 0 ∷ padded n qs

padded_product : (g n : ℕ) (qs : List ℕ) → product g 0 (padded n qs) ≡ product g 0 qs
unfolding padded
padded_product g zero qs = refl
padded_product g (suc n) qs = grind (arith, xor_zero_l, padded_product g n qs)

padded_are_bits : (n : ℕ) (qs : List ℕ) → Bits qs → Bits (padded n qs)
unfolding padded
padded_are_bits zero qs h = h
padded_are_bits (suc n) qs h = (omega arith, padded_are_bits n qs h)

padded_length : (n : ℕ) (qs : List ℕ) → length (padded n qs) ≡ n + length qs
unfolding padded
padded_length zero qs = omega arith
padded_length (suc n) qs = omega (arith, padded_length n qs)

level_from_length : (xs ys : List ℕ) → length xs ≡ length ys → Level xs ys
level_from_length [] [] e = tt
level_from_length [] (y ∷ ys) e = absurd (omega arith)
level_from_length (x ∷ xs) [] e = absurd (omega arith)
level_from_length (x ∷ xs) (y ∷ ys) e = level_from_length xs ys (omega arith)

pub unique : RemaindersUnique
unique d l a r s hl hr hs =
    let g = 2 ^ d + l in
    let xs = padded (length hs.1.0) hr.1.0 in
    let ys = padded (length hr.1.0) hs.1.0 in
    let bx = padded_are_bits (length hs.1.0) hr.1.0 hr.1.1 in
    let by = padded_are_bits (length hr.1.0) hs.1.0 hs.1.1 in
    let level : Level xs ys = level_from_length xs ys (omega (arith, padded_length (length hs.1.0) hr.1.0, padded_length (length hr.1.0) hs.1.0)) in
    let p = product g 0 hr.1.0 in
    let q = product g 0 hs.1.0 in
    let both : product g 0 (added xs ys) ≡ bit_xor p q
    = cc (product_add g 0 0 xs ys level bx by, padded_product g (length hs.1.0) hr.1.0, padded_product g (length hr.1.0) hs.1.0) in
    let rest : bit_xor p q ≡ bit_xor r s
    = cc (hr.1.2, hs.1.2, cancel_both p q r, exchange q s q r, xor_self q, xor_zero_l (bit_xor s r), xor_comm s r) in
    let low : product g 0 (added xs ys) < 2 ^ d = rw (both ∙ rest) (xor_lt d r s hr.0 hs.0) in
    let gone = none_below d l (added xs ys) hl (added_are_bits xs ys bx by) low in
    cc (both, rest, xor_zero_r r, cancel_front r s)
