use Rattle.std.proofs.Common.{◌-◌, sym, refl, ◌∙◌}
use Rattle.layer.specs.Passed.{passed_same}
use Rattle.layer.specs.Stretched.{stretch_passes}
use Rattle.layer.proofs.stretch.StretchCable.free.Goals as goal

pub returns : goal.returns
returns g c =
    let on = stretch_passes c.args.self.now.extras.0 (g.K.Cable.model c.args.self.now.inner) c.args.pair in
    c.free.ensures ∙ sym (passed_same on (λ l. l.places - l.used) (λ _. refl))
