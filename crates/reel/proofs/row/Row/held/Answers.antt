use Rattle.std.proofs.Common.{◌∙◌}
use Rattle.reel.specs.Rows.{parts_of}
use Rattle.reel.proofs.Looking.{held_none, held_some}
use Rattle.reel.proofs.row.Row.held.Goals as goal

pub returns-in_err-byte-clause-value : goal.returns-in_err-byte-clause-value
returns-in_err-byte-clause-value g c = c.from_residual.ensures ∙ held_none (parts_of g.P.Reuse.reused c.args.self.now) c.args.pair c.args.k c.in_err-byte.ensures

pub returns-clause-value : goal.returns-clause-value
returns-clause-value g c = held_some (parts_of g.P.Reuse.reused c.args.self.now) c.args.pair c.args.k c.in_ok-byte.field-0 c.in_ok-byte.ensures
