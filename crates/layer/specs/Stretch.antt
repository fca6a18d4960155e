-- A cable with longer delays. Assumes nothing.
use Rattle.std.specs.Prelude.{◌≡◌, ℕ, ◌+◌, min, List, slice_index}
use Rattle.cable.specs.Bounds.{most_pairs, most_delay}
use Rattle.cable.specs.Formed.{Formed}
use Rattle.cable.specs.Model.{Line, Model, pairs_of, line_at, numbered}
use Rattle.layer.specs.declared.stretch.Stretch.{Stretch}

-- two numbers of ticks together, at most the longest delay
abbrev pub together : ℕ → ℕ → ℕ
together x y = min (x + y) most_delay

-- a pair whose delay is longer by x
abbrev pub longer : ℕ → Line → Line
longer x l = record { delay = together l.delay x; places = l.places; used = l.used; reuse = l.reuse; held = l.held }

-- a cable whose pair p has a delay that is longer by the p-th of some extras; an extra that is not there is 0
abbrev pub stretched : List ℕ → Model → Model
stretched xs m = record { left = m.left; lines = numbered (pairs_of m) (λ p. longer (slice_index xs p) (line_at m p)) }

-- what a stretch means
abbrev pub stretch_model : {K : Type 0} → (K → Model) → Stretch K → Model
stretch_model inner s = stretched s.extras.0 (inner s.inner)

-- the sums of two rows of extras
abbrev pub sums_of : List ℕ → List ℕ → List ℕ
sums_of xs ys = numbered most_pairs (λ p. together (slice_index xs p) (slice_index ys p))

-- a stretch of a stretch is one stretch by the sums of the extras
abbrev pub OneStretch : List ℕ → List ℕ → List ℕ → Type 0
OneStretch xs ys zs = (m : Model) → Formed m → stretched ys (stretched xs m) ≡ stretched zs m
