use Rattle.std.proofs.Common.{sym, ap, arith}
use Rattle.cable.specs.Model.{Line}
use Rattle.layer.specs.Passed.{passed_line, passed_absent}
use Rattle.layer.specs.Stretched.{stretch_passes}
use Rattle.layer.proofs.stretch.StretchCable.delay.Goals as goal

pub returns-then-pair-pairs : goal.returns-then-pair-pairs
returns-then-pair-pairs g c =
    let on = stretch_passes c.args.self.now.extras.0 (g.K.Cable.model c.args.self.now.inner) c.args.pair in
    omega (arith, ap (λ (l : Line). l.delay) (passed_line on (omega arith)))

pub returns-else-pair-pairs : goal.returns-else-pair-pairs
returns-else-pair-pairs g c =
    let on = stretch_passes c.args.self.now.extras.0 (g.K.Cable.model c.args.self.now.inner) c.args.pair in
    sym (ap (λ (l : Line). l.delay) (passed_absent on (omega arith)))
