use Rattle.cable_commands.proofs.Filling.{Filled}
use Rattle.cable_commands.proofs.read.row_of.Given as goal

abbrev pub invariant-loop-pair : goal.invariant-loop-pair
invariant-loop-pair l = Filled l.field l.words l.row l.pair
