use Rattle.std.proofs.Common.{sym, ◌∙◌, arith}
use Rattle.std.proofs.lemmas.Int.{ints}
use Rattle.layer.specs.Passed.{passed_take_said}
use Rattle.layer.specs.Stretched.{stretch_passes, stretched_one}
use Rattle.layer.proofs.stretch.StretchCable.peek.Goals as goal

pub returns : goal.returns
returns g c =
    let xs = c.args.self.now.extras.0 in
    let m = g.K.Cable.model c.args.self.now.inner in
    let same = stretched_one xs m (g.met.K.Cable.formed c.args.self.now.inner) c.args.pair c.in_ok-since.since
    (sym c.in_ok-since.was ∙ c.since.ensures) (grind (arith, ints)) in
    passed_take_said (stretch_passes xs m c.args.pair) same c.peek.ensures
