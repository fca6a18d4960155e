-- A row one tick later: every byte that it holds is one tick older. Assumes nothing.
use Rattle.std.proofs.Common.{◌≡◌, ℕ, ◌+◌, ◌-◌, map, length, sym, ap, ◌∙◌, arith}
use Rattle.cable.specs.Calls.{older, line_after_tick}
use Rattle.cable.specs.Model.{Held, no_line, no_held, numbered}
use Rattle.cable.proofs.Numbered.{numbered_same, numbered_map}
use Rattle.reel.specs.Rings.{pair_at, ring_at, place_at}
use Rattle.reel.specs.Rows.{Parts, held_in, line_of}
use Rattle.reel.proofs.Putting.{line_with}
use Rattle.reel.specs.Shows.{Sound}

abbrev pub after_tick : Parts → Parts
after_tick r = record { places = r.places; pairs = r.pairs; share = r.share; clock = r.clock + 1; left = r.left - 1; reuse = r.reuse }

module _ (r : Parts) (s : Sound r) where
  pub tick_lines : numbered (length r.pairs) (line_of (after_tick r)) ≡ map line_after_tick (numbered (length r.pairs) (line_of r))
  tick_lines =
      let held : ℕ → ℕ → Held = λ q k. held_in r.clock (place_at r.places r.pairs r.share q k) in
      numbered_same (length r.pairs) _ _ no_line (λ q lq. ap (line_with (pair_at r.pairs q) r.share r.reuse)
      (numbered_same (ring_at r.pairs q).count _ _ no_held
      (λ k lk. ap (λ (a : ℕ). let x : Held = record { byte = (held q k).byte; age = a } in x) (omega (arith, s.past q k (lq, lk))))
      ∙ sym (numbered_map older (ring_at r.pairs q).count (held q) no_held)))
      ∙ sym (numbered_map line_after_tick (length r.pairs) (line_of r) no_line)
