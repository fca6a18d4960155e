-- What the cables that the console lays mean. Assumes nothing.
use Rattle.std.specs.Prelude.{Bool, true, false}
use Rattle.cable.specs.Model.{Model}
use Rattle.layer.specs.Joint.{side_by_side, joint_model}
use Rattle.reel.specs.Rows.{laid, row_model}
use Rattle.cable_commands.specs.declared.kind.Kind.{Kind}
use Rattle.cable_commands.specs.declared.kind.Kind.TheVariants.{Reel, Tape, Joint}
use Rattle.cable_commands.specs.declared.kind.Length.{Length}
use Rattle.cable_commands.specs.declared.laid.Laid.{Laid}
use Rattle.cable_commands.specs.declared.laid.Laid.TheVariants.{Reel as LaidReel, Tape as LaidTape, Joint as LaidJoint}

abbrev pub laid_model : Laid → Model
laid_model (LaidReel reel) = row_model true reel
laid_model (LaidTape tape) = row_model false tape
laid_model (LaidJoint joint) = joint_model (row_model true) (row_model false) joint

-- a length just laid
abbrev pub length_model : Bool → Length → Model
length_model reuse l = laid reuse l.row l.pairs l.ticks l.delays

abbrev pub kind_model : Kind → Model
kind_model (Reel l) = length_model true l
kind_model (Tape l) = length_model false l
kind_model (Joint a b) = side_by_side (length_model true a) (length_model false b)
