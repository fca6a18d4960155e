use Rattle.std.proofs.Common.{◌≡◌}
use Rattle.cable.specs.Model.{pairs_of}
use Rattle.layer.specs.Joint.{side_of}
use Rattle.layer.specs.Sides.{side_passes, side_shows}
use Rattle.layer.proofs.joint.Joint.side.Goals as goal

pub returns : goal.returns
returns g c =
    let a = g.K.Cable.model c.args.self.now.first in
    let b = g.L.Cable.model c.args.self.now.second in
    let few = (g.met.K.Cable.formed c.args.self.now.first).few in
    let value : c.of.result ≡ side_of (pairs_of a) c.args.pair = rw (← c.pairs.ensures) c.of.ensures in
    record { value = value; shows = side_shows a b few c.args.pair c.of.result value; passes = side_passes a b few c.args.pair c.of.result value }
