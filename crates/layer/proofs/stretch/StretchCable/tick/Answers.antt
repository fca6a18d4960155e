use Rattle.layer.specs.Stretched.{stretched_tick}
use Rattle.layer.proofs.stretch.StretchCable.tick.Goals as goal

pub returns : goal.returns
returns g c =
    let xs = c.args.self.now.extras.0 in
    let m = g.K.Cable.model c.args.self.now.inner in
    record { said = c.tick.ensures.said; after = stretched_tick xs m c.tick.ensures.after }
