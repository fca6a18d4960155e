use Rattle.frame.proofs.Steps.{step_low, step_high, stepped_below}
use Rattle.frame.proofs.check.Divisor.step.Goals as goal

pub returns-then-next-self-eq0 : goal.returns-then-next-self-eq0
returns-then-next-self-eq0 c =
    let s = c.args.self in
    let p = c.requires in
    let is = step_low _ _ _ _ s.narrow s.below p.within p.single c.if-next-self-eq0.true in
    record { value = is; bound = rw is (stepped_below _ _ _ _ s.below p.within p.single) }

pub returns-else-next-self-eq0 : goal.returns-else-next-self-eq0
returns-else-next-self-eq0 c =
    let s = c.args.self in
    let p = c.requires in
    let is = step_high _ _ _ _ s.narrow s.below p.within p.single c.if-next-self-eq0.false in
    record { value = is; bound = rw is (stepped_below _ _ _ _ s.below p.within p.single) }
