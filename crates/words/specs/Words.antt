-- What a word of a command stands for: a number in decimal digits, a byte in two hexadecimal digits. Assumes nothing.
use Rattle.std.specs.Prelude.{ℕ, ◌+◌, ◌-◌, ◌*◌, ◌^◌, cond, ◌&&◌, List, [], ◌∷◌, map, length, Some, None, Ok, Err, Option, Result, ◌==◌, nat_le, nat_lt, slice_index_or}
use Rattle.std.specs.Borrow.{Bor}
use Rattle.std.specs.Str.{all_ascii_digits}

-- a text is its bytes; the words of a line are references to texts
abbrev pub Text : Type 0
Text = List ℕ

abbrev pub Words : Type 0
Words = List (Bor Text)

abbrev pub texts : Words → List Text
texts words = map (λ w. w.now) words

-- one part read after another; the first fault ends it
abbrev pub and_then : {X Y E : Type 0} → Result X E → (X → Result Y E) → Result Y E
and_then (Ok x) f = f x
and_then (Err e) f = Err e

-- what was read, or a fault
abbrev pub or_fault : {X E : Type 0} → E → Option X → Result X E
or_fault fault None = Err fault
or_fault fault (Some x) = Ok x

-- the k-th word, counted from 0, or an empty one
abbrev pub word : Words → ℕ → Text
word words k = (slice_index_or words k (record { ref_ptr = (0, 0); now = [] })).now

-- what is read of n words, or a fault where there are more or fewer
abbrev pub taking : {X E : Type 0} → ℕ → E → Words → Result X E → Result X E
taking n fault words r = cond (length words == n) r (Err fault)

-- each of some words read, one after another; the first fault ends it
abbrev pub each_of : {X E : Type 0} → (Text → Result X E) → List Text → Result (List X) E
each_of read [] = Ok []
each_of read (w ∷ ws) = and_then (read w) (λ x. and_then (each_of read ws) (λ xs. Ok (x ∷ xs)))

-- the number that decimal digits write, after n
abbrev pub digits_of : ℕ → Text → ℕ
digits_of n [] = n
digits_of n (c ∷ cs) = digits_of (10 * n + (c - 48)) cs

-- a number of one digit or more, below 2^64
unfoldable pub decimal_of : Text → Option ℕ
decimal_of text = cond (all_ascii_digits text && (nat_lt 0 (length text) && nat_lt (digits_of 0 text) (2 ^ 64))) (Some (digits_of 0 text)) None

-- a number that is not above a given one
abbrev pub up_to : ℕ → Option ℕ → Option ℕ
up_to most None = None
up_to most (Some n) = cond (nat_le n most) (Some n) None

abbrev pub number_of : ℕ → Text → Option ℕ
number_of most text = up_to most (decimal_of text)

-- a hexadecimal digit, in either case
abbrev pub digit_of : ℕ → Option ℕ
digit_of c =
    cond (nat_le 48 c && nat_le c 57) (Some (c - 48))
    (cond (nat_le 65 c && nat_le c 70) (Some (c - 55))
    (cond (nat_le 97 c && nat_le c 102) (Some (c - 87)) None))

abbrev pub pair_of : Option ℕ → Option ℕ → Option ℕ
pair_of None low = None
pair_of (Some h) None = None
pair_of (Some h) (Some l) = Some (16 * h + l)

abbrev pub byte_of : Text → Option ℕ
byte_of [] = None
byte_of (a ∷ []) = None
byte_of (a ∷ (b ∷ [])) = pair_of (digit_of a) (digit_of b)
byte_of (a ∷ (b ∷ (c ∷ cs))) = None
