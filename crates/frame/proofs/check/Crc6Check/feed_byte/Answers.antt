use Rattle.std.proofs.Common.{rules}
use Rattle.frame.specs.Division.{reduced, stepped, divided, bits}
use Rattle.frame.proofs.check.Crc6Check.feed_byte.Goals as goal

-- the table is right, as antt computes
pub look_up-requires : goal.look_up-requires
unfolding reduced stepped divided bits
look_up-requires c = search rules
