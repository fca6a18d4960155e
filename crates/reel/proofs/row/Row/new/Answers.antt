use Rattle.std.proofs.Common.{ℕ, ◌*◌, ◌/◌, ◌≤◌, List, length, slice_index, ap, ◌∙◌, arith, rules}
use Rattle.cable.specs.Model.{Line, numbered}
use Rattle.cable.proofs.Shown.{same_models}
use Rattle.reel.specs.Rows.{Parts, new_line}
use Rattle.reel.proofs.Laying.{laid_sound, laid_lines}
use Rattle.reel.proofs.row.Row.new.Goals as goal

pub invariant_of-result : goal.invariant_of-result
invariant_of-result g c =
    let count = c.clamp-count.result in
    let r : Parts = record { places = c.args.row.items; pairs = c.empty_pairs.result.items; share = c.len.result / count; clock = 0; left = c.min.result; reuse = g.P.Reuse.reused } in
    let fits : count * (c.len.result / count) ≤ length c.args.row.items = omega (arith, c.args.row.ok.0) in
    let n = laid_sound r c.args.delays count c.empty_pairs.ensures (omega arith) (omega arith) fits (omega arith) (search rules) in
    record { some = n.some; few = n.few; shared = search rules; timed = n.timed; short = n.short; turned = n.turned; past = n.past; ordered = n.ordered }

pub returns : goal.returns
returns g c =
    let count = c.clamp-count.result in
    let r : Parts = record { places = c.args.row.items; pairs = c.empty_pairs.result.items; share = c.len.result / count; clock = 0; left = c.min.result; reuse = g.P.Reuse.reused } in
    let lines : ℕ → ℕ → List Line = λ n m. numbered n (λ p. new_line g.P.Reuse.reused (m / n) (slice_index c.args.delays p)) in
    same_models c.min.ensures (laid_lines r c.args.delays count c.empty_pairs.ensures ∙ ap (λ n. lines n c.len.result) c.clamp-count.ensures ∙ ap (lines _) c.len.ensures)
