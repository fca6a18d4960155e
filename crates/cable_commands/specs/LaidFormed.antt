-- A cable that the console lays is well formed. Assumes nothing.
use Rattle.std.specs.Prelude.{Bool, true, false}
use Rattle.cable.specs.Formed.{Formed}
use Rattle.layer.specs.Sides.{joint_formed}
use Rattle.reel.specs.Rows.{parts_of, row_model}
use Rattle.reel.specs.Shows.{sound, row_formed}
use Rattle.reel.specs.declared.row.Row.{Row}
use Rattle.cable_commands.specs.Laying.{laid_model}
use Rattle.cable_commands.specs.declared.laid.Laid.{Laid}
use Rattle.cable_commands.specs.declared.laid.Laid.TheVariants.{Reel, Tape, Joint}

pub formed : {P : Type 0} (reuse : Bool) (row : Row P) → Formed (row_model reuse row)
formed reuse row = row_formed (parts_of reuse row) (sound reuse row)

pub laid_formed : (cable : Laid) → Formed (laid_model cable)
laid_formed (Reel reel) = formed true reel
laid_formed (Tape tape) = formed false tape
laid_formed (Joint joint) =
    joint_formed (row_model true joint.first) (row_model false joint.second) (formed true joint.first) (formed false joint.second)
