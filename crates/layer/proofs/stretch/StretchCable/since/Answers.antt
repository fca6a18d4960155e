use Rattle.std.proofs.Common.{◌≡◌, ℕ, List, ℤ, pos, ◌+ℤ◌, Option, None, Some, ◌∙◌, arith}
use Rattle.std.proofs.lemmas.Int.{ints}
use Rattle.std.specs.Option.{MatchOption, IsSomeAnd}
use Rattle.cable.specs.Calls.{since_said, delay_of}
use Rattle.cable.specs.Model.{Model, line_at}
use Rattle.cable.proofs.Shown.{since_some}
use Rattle.layer.specs.Stretch.{stretched}
use Rattle.layer.specs.Stretched.{held_delay, stretched_since, stretched_since_none}
use Rattle.layer.proofs.stretch.StretchCable.since.Goals as goal

module _ (xs : List ℕ) (m : Model) (p k : ℕ) (P : ℤ → ℤ → Type 0)
    (step : (z y : ℤ) → Some z ≡ since_said m p k → P z y → y +ℤ pos (delay_of (stretched xs m) p) ≡ z +ℤ pos (delay_of m p)) where
  since_mapped : (r s : Option ℤ) → r ≡ since_said m p k → MatchOption r (s ≡ None) (λ z. IsSomeAnd s (P z)) → s ≡ since_said (stretched xs m) p k
  since_mapped None s said e = e ∙ stretched_since_none xs m p k said
  since_mapped (Some z) None said e = absurd e
  since_mapped (Some z) (Some y) said e = stretched_since xs m p k z said (step z y said e)

pub returns : goal.returns
returns g c =
    let xs = c.args.self.now.extras.0 in
    let m = g.K.Cable.model c.args.self.now.inner in
    since_mapped xs m c.args.pair c.args.k _
    (λ z y said post.
    let inside = since_some (line_at m c.args.pair) c.args.k z said in
    let delay = held_delay xs m c.args.pair c.args.k inside.0 in
    grind (arith, ints, inside.1)) c.since.result c.map.result c.since.ensures c.map.ensures.cases
