-- What a row of places means as a cable. Assumes nothing.
use Rattle.std.specs.Prelude.{ℕ, ◌-◌, ◌/◌, Bool, cond, ◌&&◌, List, [], map, length, Some, None, vec_items, Option, nat_lt, slice_index}
use Rattle.cable.specs.Bounds.{pairs_counted, ticks_counted}
use Rattle.cable.specs.Calls.{line_after_put, line_after_tick, line_after_take}
use Rattle.cable.specs.Model.{Held, Line, Model, line_at, held_at, with_line, numbered}
use Rattle.reel.specs.Rings.{pair_at, ring_at, place_at}
use Rattle.reel.specs.declared.place.Carried.{Carried}
use Rattle.reel.specs.declared.place.Place.{Place}
use Rattle.reel.specs.declared.place.Pair.{Pair}
use Rattle.reel.specs.declared.row.Row.{Row}

-- a row by its parts, and whether its places are used again
pub record Parts : Type 0 where
  pub places : List Place
  pub pairs : List Pair
  pub share : ℕ
  pub clock : ℕ
  pub left : ℕ
  pub reuse : Bool

abbrev pub parts_of : {P : Type 0} → Bool → Row P → Parts
parts_of reuse row = record {
  places = vec_items row.places;
  pairs = row.pairs.items;
  share = row.share;
  clock = row.clock;
  left = row.left;
  reuse = reuse;
}

-- what lies in a place, once `clock` ticks have passed
abbrev pub held_in : ℕ → Place → Held
held_in clock place = record { byte = place.byte; age = clock - place.tick }

-- the place of the k-th byte of pair p, or none
abbrev pub nth_of : Parts → ℕ → ℕ → Option Place
nth_of r p k = cond (nat_lt p (length r.pairs) && nat_lt k (ring_at r.pairs p).count) (Some (place_at r.places r.pairs r.share p k)) None

abbrev pub line_of : Parts → ℕ → Line
line_of r p = record {
  delay = (pair_at r.pairs p).delay;
  places = r.share;
  used = (ring_at r.pairs p).used;
  reuse = r.reuse;
  held = numbered (ring_at r.pairs p).count (λ k. held_in r.clock (place_at r.places r.pairs r.share p k));
}

abbrev pub model_of : Parts → Model
model_of r = record { left = r.left; lines = numbered (length r.pairs) (line_of r) }

abbrev pub row_model : {P : Type 0} → Bool → Row P → Model
row_model reuse row = model_of (parts_of reuse row)

-- the k-th byte of pair p and its age, or none where fewer are held
abbrev pub held_said : Model → ℕ → ℕ → Option Carried
held_said m p k =
    let h = held_at (line_at m p) k in
    cond (nat_lt k (length (line_at m p).held)) (Some (record { byte = h.byte; age = h.age })) None

-- a cable once one tick has passed
abbrev pub one_tick_on : Model → Model
one_tick_on m = record { left = m.left - 1; lines = map line_after_tick m.lines }

-- a cable with one byte more on pair p
abbrev pub with_newest : Model → ℕ → ℕ → Model
with_newest m p b = with_line m p (line_after_put (line_at m p) b)

-- a cable without the oldest byte of pair p
abbrev pub without_oldest : Model → ℕ → Model
without_oldest m p = with_line m p (line_after_take (line_at m p))

-- a pair that holds nothing yet
abbrev pub new_line : Bool → ℕ → ℕ → Line
new_line reuse share delay = record { delay = delay; places = share; used = 0; reuse = reuse; held = [] }

-- a cable just laid: each pair has an equal share of a row's places and its own delay, and holds nothing
abbrev pub laid : Bool → ℕ → ℕ → ℕ → List ℕ → Model
laid reuse row pairs ticks delays = record {
  left = ticks_counted ticks;
  lines = numbered (pairs_counted pairs) (λ p. new_line reuse (row / pairs_counted pairs) (slice_index delays p));
}
