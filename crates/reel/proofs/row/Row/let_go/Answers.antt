use Rattle.std.proofs.Common.{◌≡◌, set, sym, ap, ◌∙◌, rules}
use Rattle.cable.specs.Calls.{line_after_take}
use Rattle.cable.specs.Model.{Line, with_line}
use Rattle.reel.specs.Rings.{pair_at}
use Rattle.reel.specs.declared.place.Pair.{Pair}
use Rattle.reel.specs.Rows.{parts_of, model_of}
use Rattle.reel.proofs.Changing.{pair_written}
use Rattle.reel.proofs.LettingGo.{less, let_go_sound, let_go_model}
use Rattle.reel.specs.Shows.{sound, row_line}
use Rattle.reel.proofs.row.Row.let_go.Goals as goal

pub invariant_of-self : goal.invariant_of-self
invariant_of-self g c =
    let r = parts_of g.P.Reuse.reused c.args.self.now in
    let p = c.args.pair in
    let w : Pair = record { delay = (pair_at c.deref_mut.result.now p).delay; ring = c.without_oldest.result } in
    let x : w ≡ less r.reuse r.share (pair_at r.pairs p) = search rules in
    let n =
    let_go_sound r (sound g.P.Reuse.reused c.args.self.now) p _
    (pair_written r.pairs c.deref_mut.result.now p w c.deref_mut.ensures.value ∙ ap (set r.pairs p) x)
    c.requires.there c.requires.some in
    record { some = n.some; few = n.few; shared = search rules; timed = n.timed; short = n.short; turned = n.turned; past = n.past; ordered = n.ordered }

pub returns : goal.returns
returns g c =
    let r = parts_of g.P.Reuse.reused c.args.self.now in
    let p = c.args.pair in
    let w : Pair = record { delay = (pair_at c.deref_mut.result.now p).delay; ring = c.without_oldest.result } in
    let x : w ≡ less r.reuse r.share (pair_at r.pairs p) = search rules in
    let_go_model r (sound g.P.Reuse.reused c.args.self.now) p _
    (pair_written r.pairs c.deref_mut.result.now p w c.deref_mut.ensures.value ∙ ap (set r.pairs p) x)
    c.requires.there c.requires.some
    ∙ ap (λ (x : Line). with_line (model_of r) p (line_after_take x)) (sym (row_line r p c.requires.there))
