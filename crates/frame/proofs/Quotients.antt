-- The register ends as the remainder of a division. Assumes nothing.
use Rattle.std.proofs.Common.{◌≡◌, ℕ, suc, ◌+◌, ◌*◌, ◌^◌, ◌<◌, ◌≤◌, List, [], ◌∷◌, length, ap, ◌∙◌, ⊎_elim, zero-mul, add-one, arith}
use lib.Bits.{bit_xor, xor_assoc, xor_comm, xor_zero_r}
use Rattle.std.proofs.lemmas.Bool.{cases_lt}
use Rattle.frame.specs.Checks.{ones, dividend}
use Rattle.frame.specs.Division.{reduced, stepped, divided, Bits, polynomial, product, Remainder}
use Rattle.frame.proofs.Feeding.{ones_below}
use Rattle.frame.proofs.Steps.{reduced_low, reduced_high, divided_below, pow_next}
use Rattle.frame.proofs.Sums.{swap_last, cancel_front, twice_xor, pow_xor}

-- some bit q of the quotient makes one step of the register a step of the division
Step : ℕ → ℕ → ℕ → ℕ → Type 0
Step d l t a = (q : ℕ) × (q < 2) × (bit_xor (bit_xor (a * 2) (q * (2 ^ d + l))) (reduced d l t) ≡ bit_xor (a * 2) t)

step : (d l t a : ℕ) → Step d l t a
unfolding Step
step d l t a =
    ⊎_elim
    (λ (lo : t < 2 ^ d). (0, omega arith, grind (arith, reduced_low, xor_zero_r)))
    (λ (hi : 2 ^ d ≤ t). (1, omega arith, grind (arith, reduced_high, xor_comm t (2 ^ d + l), xor_assoc, cancel_front)))
    (cases_lt t (2 ^ d))

-- the sum that a step keeps: multiple a and register r, message m and start o
kept : (d a r m o b : ℕ) → bit_xor a r ≡ bit_xor (m * 2 ^ d) o
    → bit_xor (a * 2) (bit_xor (r * 2) (b * 2 ^ d)) ≡ bit_xor (bit_xor (m * 2) b * 2 ^ d) (o * 2)
kept d a r m o b e = grind (arith, xor_assoc, twice_xor a r, twice_xor (m * 2 ^ d) o, swap_last, pow_xor d (m * 2) b)

Quotient : ℕ → ℕ → ℕ → ℕ → ℕ → ℕ → List ℕ → Type 0
Quotient d l a r m o bs =
    (qs : List ℕ) × Bits qs × (bit_xor (product (2 ^ d + l) a qs) (divided d l r bs) ≡ bit_xor (polynomial m bs * 2 ^ d) (o * 2 ^ length bs))

quotient : (d l a r m o : ℕ) (bs : List ℕ) → bit_xor a r ≡ bit_xor (m * 2 ^ d) o → Quotient d l a r m o bs
unfolding Quotient Step divided stepped
quotient d l a r m o [] e = ([], tt, e ∙ ap (bit_xor (m * 2 ^ d)) (omega arith))
quotient d l a r m o (b ∷ bs) e =
    let t = bit_xor (r * 2) (b * 2 ^ d) in
    let s = step d l t a in
    let rest = quotient d l (bit_xor (a * 2) (s.0 * (2 ^ d + l))) (reduced d l t) (bit_xor (m * 2) b) (o * 2) bs (s.2 ∙ kept d a r m o b e) in
    let twice : o * 2 * 2 ^ length bs ≡ o * 2 ^ suc (length bs) = rw (← add-one (length bs), pow_next) (omega arith) in
    (s.0 ∷ rest.0, (s.1, rest.1), cc (rest.2))

-- a register of ones, divided along some bits
pub divides : (d l : ℕ) (bs : List ℕ) → l < 2 ^ d → Bits bs → Remainder d l (dividend d bs) (divided d l (ones d) bs)
unfolding Quotient
divides d l bs hl hb = (divided_below d l (ones d) bs hl (ones_below d) hb, quotient d l 0 (ones d) 0 (ones d) bs (rw zero-mul))
