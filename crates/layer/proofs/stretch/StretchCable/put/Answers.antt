use Rattle.std.proofs.Common.{sym, ◌∙◌}
use Rattle.layer.specs.Passed.{passed_put, passed_put_said}
use Rattle.layer.specs.Stretched.{stretch_passes}
use Rattle.layer.proofs.stretch.StretchCable.put.Goals as goal

pub returns : goal.returns
returns g c =
    let on = stretch_passes c.args.self.now.extras.0 (g.K.Cable.model c.args.self.now.inner) c.args.pair in
    record { said = c.put.ensures.said ∙ sym (passed_put_said on); after = passed_put on c.args.byte c.put.ensures.after }
