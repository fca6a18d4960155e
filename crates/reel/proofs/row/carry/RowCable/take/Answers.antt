use Rattle.cable.proofs.Cases.{said_some}
use Rattle.reel.specs.Rows.{parts_of, model_of}
use Rattle.reel.proofs.Looking.{one_counted}
use Rattle.reel.proofs.row.carry.RowCable.take.Goals as goal

pub let_go-requires : goal.let_go-requires
let_go-requires g c =
    let r = parts_of g.P.Reuse.reused c.args.self.now in
    let q = one_counted r c.args.pair (said_some (model_of r) c.args.pair c.in_ok-byte.byte c.in_ok-byte.ensures) in
    record { there = q.0; some = q.1 }
