-- The cables of the two ways, and what a command does with them. Assumes nothing.
use Rattle.std.specs.Prelude.{◌≡◌, ℕ, List, Some, None, Ok, Err, Option, Result}
use Rattle.cable.specs.Model.{Model}
use Rattle.layer.specs.Stretch.{stretched, stretch_model}
use Rattle.layer.specs.declared.stretch.Stretch.{Stretch}
use Rattle.cable_commands.specs.Calls.{Told, done, told_by, reply_to, after_call, Case, done_case, case_for}
use Rattle.cable_commands.specs.Laying.{laid_model, kind_model}
use Rattle.cable_commands.specs.declared.cables.Cables.{Cables}
use Rattle.cable_commands.specs.declared.cables.Command.{Command}
use Rattle.cable_commands.specs.declared.cables.Request.{Request}
use Rattle.cable_commands.specs.declared.cables.Request.TheVariants.{Lay, Ask}
use Rattle.cable_commands.specs.declared.cables.Way.{Way}
use Rattle.cable_commands.specs.declared.cables.Way.TheVariants.{Down, Up}
use Rattle.cable_commands.specs.declared.call.Call.{Call}
use Rattle.cable_commands.specs.declared.call.Reply.{Reply}
use Rattle.cable_commands.specs.declared.fault.CableFault.{CableFault}
use Rattle.cable_commands.specs.declared.fault.CableFault.TheVariants.{NoCable, NoMemory}
use Rattle.cable_commands.specs.declared.kind.Kind.{Kind}
use Rattle.cable_commands.specs.declared.laid.Laid.{Laid}

-- the cable of a way, or none
abbrev pub cable_at : Option (Stretch Laid) → Option Model
cable_at None = None
cable_at (Some cable) = Some (stretch_model laid_model cable)

-- the cables of the two ways
pub record Models : Type 0 where
  pub down : Option Model
  pub up : Option Model

abbrev pub models_of : Cables → Models
models_of c = record { down = cable_at c.down; up = cable_at c.up }

abbrev pub no_cables : Models
no_cables = record { down = None; up = None }

abbrev pub on_way : Models → Way → Option Model
on_way ms Down = ms.down
on_way ms Up = ms.up

abbrev pub with_way : Models → Way → Option Model → Models
with_way ms Down m = record { down = m; up = ms.up }
with_way ms Up m = record { down = ms.down; up = m }

-- what is told, or a fault
abbrev pub told_for : Result Reply CableFault → Result Told CableFault
told_for (Ok reply) = Ok (told_by reply)
told_for (Err fault) = Err fault

-- something asked of the cable of a way
abbrev pub asked_said : Call → Option Model → Result Told CableFault
asked_said call None = Err NoCable
asked_said call (Some m) = Ok (reply_to call m)

abbrev pub asked_after : Call → Option Model → Option Model
asked_after call None = None
asked_after call (Some m) = Some (after_call call m)

-- a cable laid on a way; or there is no memory for it, and every cable is as it was
abbrev pub Laying : Way → Kind → List ℕ → Models → Result Told CableFault → Models → Type 0
Laying way kind extras before (Ok told) after = (told ≡ done) × (after ≡ with_way before way (Some (stretched extras (kind_model kind))))
Laying way kind extras before (Err fault) after = (fault ≡ NoMemory) × (after ≡ before)

-- what a request does on a way
abbrev pub Requested : Way → Request → Models → Result Told CableFault → Models → Type 0
Requested way (Lay kind extras) before said after = Laying way kind extras before said after
Requested way (Ask call) before said after =
    (said ≡ asked_said call (on_way before way)) × (after ≡ with_way before way (asked_after call (on_way before way)))

-- the case of reply that a request is answered by
abbrev pub case_wanted : Request → Case
case_wanted (Lay kind extras) = done_case
case_wanted (Ask call) = case_for call

abbrev pub Performed : Command → Models → Result Told CableFault → Models → Type 0
Performed command before said after = Requested command.way command.request before said after
