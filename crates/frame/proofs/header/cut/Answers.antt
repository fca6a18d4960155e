use Rattle.std.proofs.Common.{◌/◌, ◌^◌}
use lib.Bits.{and_mask}
use Rattle.std.proofs.lemmas.Nat.{one_shl}
use Rattle.frame.proofs.header.cut.Goals as goal

pub returns : goal.returns
returns c = cc (one_shl c.args.width 16 c.requires.narrow, and_mask (c.args.number / 2 ^ c.args.from) c.args.width)
