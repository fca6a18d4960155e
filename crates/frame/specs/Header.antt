-- A frame header: two bytes, one in each mini-frame of its frame, as one number of 16 bits, the first byte higher.
-- Assumes nothing.
use Rattle.std.specs.Prelude.{ℕ, ◌+◌, ◌-◌, ◌*◌, ◌/◌, ◌%◌, ◌^◌, min, max, Bool, cond, ◌&&◌, [], ◌∷◌, Ok, Err, Result, ◌==◌, slice_index}
use Rattle.frame.specs.declared.header.Fields.{Fields}
use Rattle.frame.specs.Checks.{crc4_of}
use Rattle.frame.specs.Refusals.{Refused, crc4_refused, sf_refused}

-- a superframe's frames are numbered from 1 to 6
abbrev pub last_frame : ℕ
last_frame = 6

-- a frame number below 1 counts as 1, above 6 as 6
abbrev pub frame_of : ℕ → ℕ
frame_of f = max 1 (min f last_frame)

-- a bit other than 0 counts as 1
abbrev pub bit_of : ℕ → ℕ
bit_of c = min c 1

-- SF in the first mini-frame of a frame: 1 in frame 1 alone; in the second mini-frame it is 0
abbrev pub sf_of : ℕ → ℕ
sf_of f = cond (frame_of f == 1) 1 0

-- In6 over the six frames
abbrev pub in6_of : ℕ → ℕ
in6_of f = slice_index (0 ∷ 1 ∷ 0 ∷ 1 ∷ 1 ∷ 1 ∷ []) (frame_of f - 1)

-- the first byte: SF, C6, In6, Data 7 to 3
abbrev pub first_byte : ℕ → ℕ → ℕ → ℕ
first_byte f c d = sf_of f * 2 ^ 7 + bit_of c * 2 ^ 6 + in6_of f * 2 ^ 5 + d / 2 ^ 3

-- the twelve bits that the CRC-4 is over: the first byte, SF, which is 0, and Data 2 to 0
abbrev pub twelve_of : ℕ → ℕ → ℕ → ℕ
twelve_of f c d = first_byte f c d * 2 ^ 4 + d % 2 ^ 3

-- the header of frame f with the C6 bit c and Data d
unfoldable pub header_of : ℕ → ℕ → ℕ → ℕ
header_of f c d = twelve_of f c d * 2 ^ 4 + crc4_of (twelve_of f c d)

-- the four lowest bits of a header are the CRC-4 of the twelve others
abbrev pub crc4_right : ℕ → Bool
crc4_right h = h % 2 ^ 4 == crc4_of (h / 2 ^ 4)

-- both SF bits are those of frame f
abbrev pub sf_right : ℕ → ℕ → Bool
sf_right f h = h / 2 ^ 15 == sf_of f && h / 2 ^ 7 % 2 == 0

-- the fields of a header, as they stand in it
abbrev pub fields_of : ℕ → Fields
fields_of h = record { c6 = h / 2 ^ 14 % 2; in6 = h / 2 ^ 13 % 2; «data» = h / 2 ^ 8 % 2 ^ 5 * 2 ^ 3 + h / 2 ^ 4 % 2 ^ 3 }

-- the fields, or the refusal: a wrong CRC-4 is told before a wrong SF bit
abbrev pub verdict_of : Bool → Bool → Fields → Result Fields Refused
verdict_of crc4 sf fields = cond crc4 (cond sf (Ok fields) (Err sf_refused)) (Err crc4_refused)

-- a header read as that of frame f; In6 is not judged
unfoldable pub read_of : ℕ → ℕ → Result Fields Refused
read_of f h = verdict_of (crc4_right h) (sf_right f h) (fields_of h)

-- what was written for frame f, as it is read back
abbrev pub written : ℕ → ℕ → ℕ → Fields
written f c d = record { c6 = bit_of c; in6 = in6_of f; «data» = d }
