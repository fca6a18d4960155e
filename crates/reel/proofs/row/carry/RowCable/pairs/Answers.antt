use Rattle.std.proofs.Common.{sym, ◌∙◌}
use Rattle.reel.specs.Rows.{parts_of}
use Rattle.reel.specs.Shows.{row_pairs}
use Rattle.reel.proofs.row.carry.RowCable.pairs.Goals as goal

pub returns : goal.returns
returns g c = c.len.ensures.value ∙ sym (row_pairs (parts_of g.P.Reuse.reused c.args.self.now))
