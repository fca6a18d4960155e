use Rattle.std.proofs.Common.{sym}
use Rattle.layer.proofs.stretch.Stretch+Stretch+K.merged.Goals as goal

pub returns : goal.returns
returns g c =
    let inner = c.args.self.inner.inner in
    sym (c.plus.ensures.one_stretch (g.K.Cable.model inner) (g.met.K.Cable.formed inner))
