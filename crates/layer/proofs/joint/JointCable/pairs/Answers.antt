use Rattle.std.proofs.Common.{arith}
use Rattle.layer.specs.Sides.{joint_pairs}
use Rattle.layer.proofs.joint.JointCable.pairs.Goals as goal

pub returns : goal.returns
returns g c = omega (arith, joint_pairs (g.K.Cable.model c.args.self.now.first) (g.L.Cable.model c.args.self.now.second))
