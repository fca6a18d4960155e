-- Checks (CRC): the register of a check is the remainder of a division by x^d + l, d the degree and l the lower terms.
-- Assumes nothing.
use Rattle.std.specs.Prelude.{◌≡◌, ℕ, ◌-◌, ◌*◌, ◌%◌, ◌^◌, ◌<◌, List, ◌++◌, length, bit_xor}
use Rattle.frame.specs.Division.{divided, bits, message, polynomial, Remainder}

-- the largest degree of a check; nothing below names another bound on degrees
abbrev pub most_degree : ℕ
most_degree = 8

-- a register of d ones, as a check starts with
abbrev pub ones : ℕ → ℕ
ones d = 2 ^ d - 1

-- the register r with more bits, or more bytes; of r only the d lowest bits count
unfoldable pub fed_bits : ℕ → ℕ → ℕ → List ℕ → ℕ
fed_bits d l r bs = divided d l (r % 2 ^ d) bs

abbrev pub fed : ℕ → ℕ → ℕ → List ℕ → ℕ
fed d l r bytes = fed_bits d l r (message bytes)

-- r is the register before with some bytes, in whatever two parts these come
abbrev pub InParts : ℕ → ℕ → ℕ → List ℕ → ℕ → Type 0
InParts d l before bytes r = (first rest : List ℕ) → first ++ rest ≡ bytes → fed d l (fed d l before first) rest ≡ r

-- the remainder over some bytes
abbrev pub remainder_of : ℕ → ℕ → List ℕ → ℕ
remainder_of d l bytes = fed d l (ones d) bytes

-- what is divided by then: the message times x^d, with ones added in its d highest places, which complements its first d
-- bits
abbrev pub dividend : ℕ → List ℕ → ℕ
dividend d bs = bit_xor (polynomial 0 bs * 2 ^ d) (ones d * 2 ^ length bs)

-- the remainder of a check is what a division of that by x^d + l leaves
abbrev pub RemaindersDivide : Type 0
RemaindersDivide = (d l : ℕ) (bytes : List ℕ) → l < 2 ^ d → Remainder d l (dividend d (message bytes)) (remainder_of d l bytes)

-- and a division leaves one remainder, and no other
abbrev pub RemaindersUnique : Type 0
RemaindersUnique = (d l a r s : ℕ) → l < 2 ^ d → Remainder d l a r → Remainder d l a s → r ≡ s

-- CRC-6 divides by x^6 + x + 1 and is complemented at the end; over no byte it is 0
abbrev pub crc6_degree : ℕ
crc6_degree = 6

abbrev pub crc6_lower : ℕ
crc6_lower = 3

abbrev pub crc6_fed : ℕ → List ℕ → ℕ
crc6_fed register bytes = fed crc6_degree crc6_lower register bytes

abbrev pub crc6_end : ℕ → ℕ
crc6_end register = ones crc6_degree - register % 2 ^ crc6_degree

abbrev pub crc6_of : List ℕ → ℕ
crc6_of bytes = crc6_end (crc6_fed (ones crc6_degree) bytes)

-- CRC-4 divides by x^4 + x + 1, goes over the twelve other bits of a header, and is not complemented
abbrev pub crc4_degree : ℕ
crc4_degree = 4

abbrev pub crc4_lower : ℕ
crc4_lower = 3

abbrev pub crc4_of : ℕ → ℕ
crc4_of twelve = fed_bits crc4_degree crc4_lower (ones crc4_degree) (bits 12 twelve)
