-- How large a cable may be. Assumes nothing.
use Rattle.std.specs.Prelude.{ℕ, ◌^◌, min, max}

-- the most pairs of a cable
abbrev pub most_pairs : ℕ
most_pairs = 8

-- the most ticks that a cable may have left
abbrev pub most_ticks : ℕ
most_ticks = 2 ^ 40

-- the longest delay of a pair, in ticks
abbrev pub most_delay : ℕ
most_delay = 65535

-- a number of pairs or of ticks as it is counted where a cable is made: fewer pairs than 1 as 1, and more pairs or ticks than
-- a cable may have as that many
abbrev pub pairs_counted : ℕ → ℕ
pairs_counted n = max 1 (min n most_pairs)

abbrev pub ticks_counted : ℕ → ℕ
ticks_counted n = min n most_ticks
