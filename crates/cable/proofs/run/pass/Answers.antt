use Rattle.std.proofs.Common.{refl, ◌∙◌, arith, rules}
use Rattle.cable.specs.Runs.{ticked}
use Rattle.cable.proofs.Ticks.{passed_more, passed_all}
use Rattle.cable.proofs.run.pass.Goals as goal

pub loop-passed-init : goal.loop-passed-init
unfolding ticked
loop-passed-init g c = (refl, omega arith)

pub returns-in_err-tick : goal.returns-in_err-tick
returns-in_err-tick g c =
    let i = c.loop-passed.invariant in
    let e = passed_all _ _ _ c.args.ticks _ i.0 i.1 c.loop-passed-test.true c.in_err-tick.ensures.said in
    record { said = search (rules, e.0); after = cc (c.tick.ensures.after, e.1) }

pub loop-passed-preserved : goal.loop-passed-preserved
loop-passed-preserved g c =
    let e = passed_more _ _ _ c.loop-passed.invariant.0 c.loop-passed.invariant.1 c.in_ok-tick.ensures.said in
    (c.tick.ensures.after ∙ e.0, e.1)
