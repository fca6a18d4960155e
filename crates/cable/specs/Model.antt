-- What a cable is: some ticks left, and a line for each of its pairs, which are numbered from 0. Assumes nothing.
use Rattle.std.specs.Prelude.{ℕ, Bool, false, List, [], map, length, slice_index_or, slice_set}
use Rattle.std.specs.List.{range_with_len}

-- a byte on its way, and its age: how many ticks ago it was put
pub record Held : Type 0 where
  pub byte : ℕ
  pub age : ℕ

-- a pair: its delay in ticks, its places and how many of these are used, whether a place is used again once its byte is
-- taken, and the bytes that it holds, oldest first
pub record Line : Type 0 where
  pub delay : ℕ
  pub places : ℕ
  pub used : ℕ
  pub reuse : Bool
  pub held : List Held

pub record Model : Type 0 where
  pub left : ℕ
  pub lines : List Line

abbrev pub pairs_of : Model → ℕ
pairs_of m = length m.lines

-- what an absent pair shows: no delay, no place and no byte
abbrev pub no_line : Line
no_line = record { delay = 0; places = 0; used = 0; reuse = false; held = [] }

abbrev pub line_at : Model → ℕ → Line
line_at m p = slice_index_or m.lines p no_line

abbrev pub no_held : Held
no_held = record { byte = 0; age = 0 }

-- the k-th byte that a pair holds, counted from 0
abbrev pub held_at : Line → ℕ → Held
held_at l k = slice_index_or l.held k no_held

-- the bytes that a pair holds, without their ages
abbrev pub bytes_of : Line → List ℕ
bytes_of l = map (λ (h : Held). h.byte) l.held

-- a pair with other used places and other bytes: nothing else of a pair ever changes
abbrev pub holding : Line → ℕ → List Held → Line
holding l used held = record { delay = l.delay; places = l.places; used = used; reuse = l.reuse; held = held }

-- a cable with one line changed
abbrev pub with_line : Model → ℕ → Line → Model
with_line m p l = record { left = m.left; lines = slice_set m.lines p l }

-- a list of n, made from a function of the place, which counts from 0
abbrev pub numbered : {X : Type 0} → ℕ → (ℕ → X) → List X
numbered n f = map f (range_with_len 0 n)
