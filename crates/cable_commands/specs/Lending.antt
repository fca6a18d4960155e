-- What is left of the cables of the two ways once the cable of one is changed. Assumes nothing.
use Rattle.std.specs.Prelude.{Option}
use Rattle.std.specs.Borrow.{Lends, MutBor, Fml}
use Rattle.std.specs.contracts.option.Option as option
use Rattle.layer.specs.contracts.stretch.Stretch as stretch
use Rattle.layer.specs.declared.stretch.Stretch.{Stretch}
use Rattle.cable_commands.specs.contracts.laid.Laid as laid
use Rattle.cable_commands.specs.contracts.cables.Cables.{the_row}
use Rattle.cable_commands.specs.declared.cables.Cables.{Cables}
use Rattle.cable_commands.specs.declared.cables.Way.{Way}
use Rattle.cable_commands.specs.declared.cables.Way.TheVariants.{Down, Up}
use Rattle.cable_commands.specs.declared.laid.Laid.{Laid}

-- the cables, with another on a way
abbrev pub with_cable : Cables → Way → Option (Stretch Laid) → Cables
with_cable c Down cable = record c { down = cable }
with_cable c Up cable = record c { up = cable }

-- the cables end with the last cable behind r on the way
abbrev pub LendsCable : MutBor Cables → Way → MutBor (Option (Stretch Laid)) → Fml
LendsCable c way r = Lends the_row (option.the_row (stretch.the_row laid.the_row)) c r (with_cable c.now way)
