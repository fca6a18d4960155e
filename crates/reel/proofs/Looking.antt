-- What the places of a row tell of the bytes that it holds. Assumes nothing.
use Rattle.std.proofs.Common.{◌≡◌, ℕ, ◌-◌, ◌<◌, true, length, Some, None, arith}
use Rattle.std.proofs.lemmas.Bool.Decides.{nat_tests}
use Rattle.cable.specs.Calls.{has_one}
use Rattle.cable.specs.Model.{line_at}
use Rattle.cable.proofs.Shown.{one_there, one_parts}
use Rattle.reel.specs.Rings.{ring_at}
use Rattle.reel.specs.Rows.{Parts, nth_of, model_of, held_said}
use Rattle.reel.specs.declared.place.Place.{Place}
use Rattle.reel.specs.Shows.{row_pairs, row_length, row_absent, row_held}

module _ (r : Parts) (p k : ℕ) where
  pub held_none : None ≡ nth_of r p k → None ≡ held_said (model_of r) p k
  held_none e = let a = row_length r p in let b = row_absent r p in grind (arith, nat_tests)

  pub held_some : (x : Place) → Some x ≡ nth_of r p k → Some (record { byte = x.byte; age = r.clock - x.tick }) ≡ held_said (model_of r) p k
  held_some x e = let a = row_length r p in let b = row_absent r p in let h = row_held r p k in grind (arith, nat_tests)

module _ (r : Parts) (p : ℕ) where
  -- a pair with a byte to take
  pub one_counted : has_one (line_at (model_of r) p) ≡ true → (p < length r.pairs) × (0 < (ring_at r.pairs p).count)
  one_counted t =
      let l : p < length r.pairs = omega (arith, one_there (model_of r) p t, row_pairs r) in
      (l, omega (arith, (one_parts (line_at (model_of r) p) t).0, row_length r p l))
