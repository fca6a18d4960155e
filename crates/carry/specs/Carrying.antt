-- What comes out of a cable that bytes are put on pair by pair, with a tick after the last pair. Assumes nothing.
use Rattle.std.specs.Prelude.{◌≡◌, ℕ, ◌+◌, ◌-◌, ◌*◌, ◌/◌, ◌%◌, ◌^◌, min, true, cond, ◌⊎◌, List, [], ◌∷◌, replicate, Some, None, Option, ◌==◌}
use Rattle.cable.specs.Bounds.{most_pairs}
use Rattle.cable.specs.Calls.{put_after, tick_after, take_said, take_after}
use Rattle.cable.specs.Model.{Model}
use Rattle.layer.specs.Joint.{side_by_side}
use Rattle.layer.specs.Stretch.{stretched}
use Rattle.reel.specs.Rows.{laid}

-- a sum with what was taken
abbrev pub mixed : ℕ → Option ℕ → ℕ
mixed s None = s
mixed s (Some b) = (s * 31 + b) % 2 ^ 32

-- a byte put on pair p, and a tick after the last pair
abbrev pub put_and_tick : Model → ℕ → ℕ → Model
put_and_tick m p b = cond (p == most_pairs - 1) (tick_after (put_after m p b)) (put_after m p b)

abbrev pub step_said : Model → ℕ → ℕ → Option ℕ
step_said m p b = take_said (put_and_tick m p b) p

abbrev pub step_after : Model → ℕ → ℕ → Model
step_after m p b = take_after (put_and_tick m p b) p

-- the sum of what comes out, after s, while bytes are put from the i-th on
abbrev pub carried_sum : ℕ → Model → ℕ → List ℕ → ℕ
carried_sum s m i [] = s
carried_sum s m i (b ∷ bs) = carried_sum (mixed s (step_said m (i % most_pairs) b)) (step_after m (i % most_pairs) b) (i + 1) bs

-- a reel of some pairs with so many places to each, every pair with one delay
abbrev pub reel_laid : ℕ → ℕ → ℕ → Model
reel_laid pairs places delay = laid true (min pairs most_pairs * places) pairs (2 ^ 64 - 1) (replicate most_pairs delay)

-- a stretch over two reels side by side
abbrev pub pile_laid : ℕ → ℕ → ℕ → Model
pile_laid places delay extra =
    stretched (replicate most_pairs extra) (side_by_side (reel_laid (most_pairs / 2) places delay) (reel_laid (most_pairs / 2) places delay))

-- a sum, or that there was no memory
abbrev pub SumOr : ℕ → ℕ → Type 0
SumOr r sum = (r ≡ sum) ⊎ (r ≡ 2 ^ 64 - 1)
