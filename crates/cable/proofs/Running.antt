-- What is put comes out, call by call. Assumes nothing.
use mathlib.Core.List.{map-map}
use Rattle.std.proofs.Common.{◌≡◌, ℕ, [], ◌∷◌, ◌++◌, arith}
use Rattle.std.proofs.lemmas.Bool.Decides.{nat_tests}
use Rattle.std.proofs.lemmas.Grind.{common_steps}
use Rattle.std.proofs.lemmas.List.{append-nil, append_assoc, map-append}
use Rattle.cable.specs.Model.{Model, line_at, bytes_of}
use Rattle.cable.specs.Runs.{Call, put, tick, take, after, put_on, taken_from, PutComesOut}
use Rattle.cable.proofs.Shown.{line_ticked, room_there, one_there, with_here, with_there}

-- one call
abbrev Step : ℕ → Model → Call → Type 0
Step p m c = taken_from p m c ++ bytes_of (line_at (after m c) p) ≡ bytes_of (line_at m p) ++ put_on p m c

step : (p : ℕ) (m : Model) (c : Call) → Step p m c
step p m (put q b) = grind (arith, nat_tests, map-append, append-nil, with_here, with_there, room_there)
step p m tick = grind (arith, nat_tests, map-map, append-nil, line_ticked)
step p m (take q) = grind (arith, nat_tests, append-nil, with_here, with_there, one_there, common_steps)

pub comes_out : (m : Model) → PutComesOut m
comes_out m p [] = simp append-nil
comes_out m p (c ∷ cs) = grind (arith, append_assoc, step p m c, comes_out (after m c) p cs)
