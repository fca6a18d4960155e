use Rattle.std.proofs.Common.{◌<◌, min, sym, ◌∙◌, arith}
use Rattle.cable.proofs.Cases.{tick_done}
use Rattle.layer.specs.Joint.{side_by_side}
use Rattle.layer.specs.Sides.{joint_tick}
use Rattle.layer.proofs.joint.JointCable.tick.Goals as goal

pub returns : goal.returns
returns g c =
    let a = g.K.Cable.model c.args.self.now.first in
    let b = g.L.Cable.model c.args.self.now.second in
    let some : 0 < min a.left b.left = omega arith in
    record {
      said = c.tick-2.ensures.said ∙ sym (tick_done b (omega arith)).said ∙ (tick_done (side_by_side a b) some).said;
      after = joint_tick a b some c.tick.ensures.after c.tick-2.ensures.after;
    }
