-- What is so of every cable. Assumes nothing.
use Rattle.std.specs.Prelude.{ℕ, ◌<◌, ◌≤◌, length}
use Rattle.cable.specs.Bounds.{most_pairs, most_ticks, most_delay}
use Rattle.cable.specs.Model.{Line, Model, pairs_of, line_at, held_at}

-- a pair's delay is in its range, each byte that it holds uses a place, and no older byte has the smaller age, so that since
-- never rises from an older byte to a newer one
pub record FormedLine (l : Line) : Type 0 where
  pub short : l.delay ≤ most_delay
  pub placed : length l.held ≤ l.used
  pub within : l.used ≤ l.places
  pub falls : (j k : ℕ) → j ≤ k → k < length l.held → (held_at l k).age ≤ (held_at l j).age

pub record Formed (m : Model) : Type 0 where
  pub some : 1 ≤ pairs_of m
  pub few : pairs_of m ≤ most_pairs
  pub timed : m.left ≤ most_ticks
  pub each : (p : ℕ) → FormedLine (line_at m p)
