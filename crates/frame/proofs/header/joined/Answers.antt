use Rattle.std.proofs.Common.{arith}
use lib.Bits.{or_shifted}
use Rattle.frame.proofs.header.joined.Goals as goal

pub returns : goal.returns
returns c = grind (arith, c.requires, or_shifted c.args.high c.args.width c.args.low)
