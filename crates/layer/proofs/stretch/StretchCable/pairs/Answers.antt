use Rattle.std.proofs.Common.{sym, ◌∙◌}
use Rattle.layer.specs.Stretched.{stretched_pairs}
use Rattle.layer.proofs.stretch.StretchCable.pairs.Goals as goal

pub returns : goal.returns
returns g c = c.pairs.ensures ∙ sym (stretched_pairs c.args.self.now.extras.0 (g.K.Cable.model c.args.self.now.inner))
