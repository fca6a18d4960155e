-- Where the bytes of each pair lie in a row of places. Assumes nothing.
use Rattle.std.specs.Prelude.{ℕ, ◌+◌, ◌-◌, ◌*◌, ◌<◌, ◌≤◌, Bool, cond, List, length, nat_lt, slice_index_or}
use Rattle.cable.specs.Bounds.{most_delay}
use Rattle.cable.specs.Calls.{freed}
use Rattle.reel.specs.declared.place.Place.{Place}
use Rattle.reel.specs.declared.place.Pair.{Pair}
use Rattle.reel.specs.declared.place.Ring.{Ring}

abbrev pub no_place : Place
no_place = record { byte = 0; tick = 0 }

abbrev pub no_ring : Ring
no_ring = record { head = 0; count = 0; used = 0 }

-- a pair that holds nothing yet
abbrev pub empty_pair : ℕ → Pair
empty_pair delay = record { delay = delay; ring = no_ring }

abbrev pub pair_at : List Pair → ℕ → Pair
pair_at pairs p = slice_index_or pairs p (empty_pair 0)

abbrev pub ring_at : List Pair → ℕ → Ring
ring_at pairs p = (pair_at pairs p).ring

-- the k-th place from `head` on, of `share` places that close to a ring
abbrev pub round : ℕ → ℕ → ℕ → ℕ
round share head k = cond (nat_lt (head + k) share) (head + k) (head + k - share)

-- a ring with one byte more
abbrev pub one_more : Ring → Ring
one_more g = record { head = g.head; count = g.count + 1; used = g.used + 1 }

-- a ring without its oldest byte: its head has turned by one of `share` places
abbrev pub one_less : Bool → ℕ → Ring → Ring
one_less reuse share g = record { head = round share g.head 1; count = g.count - 1; used = freed reuse g.used }

-- where that place stands in the row, for pair p
abbrev pub spot : ℕ → ℕ → ℕ → ℕ → ℕ
spot share p head k = p * share + round share head k

-- the place of the k-th byte of pair p
abbrev pub place_at : List Place → List Pair → ℕ → ℕ → ℕ → Place
place_at places pairs share p k = slice_index_or places (spot share p (ring_at pairs p).head k) no_place

-- what is always so of a row and its pairs

abbrev pub Short : List Pair → Type 0
Short pairs = (p : ℕ) → (pair_at pairs p).delay ≤ most_delay

-- a ring lies within its share, and each of its bytes uses a place
abbrev pub Turned : List Pair → ℕ → Type 0
Turned pairs share =
    (p : ℕ) → p < length pairs → ((ring_at pairs p).head ≤ share) × ((ring_at pairs p).count ≤ (ring_at pairs p).used) × ((ring_at pairs p).used ≤ share)

-- every byte was put in the past
abbrev pub Past : List Place → List Pair → ℕ → ℕ → Type 0
Past places pairs share clock = (p k : ℕ) → (p < length pairs) × (k < (ring_at pairs p).count) → (place_at places pairs share p k).tick ≤ clock

-- an older byte was not put later than a newer one
abbrev pub Ordered : List Place → List Pair → ℕ → Type 0
Ordered places pairs share =
    (p j k : ℕ) → (p < length pairs) × (j ≤ k) × (k < (ring_at pairs p).count) → (place_at places pairs share p j).tick ≤ (place_at places pairs share p k).tick
