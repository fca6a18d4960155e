use Rattle.std.proofs.Common.{◌≡◌, set, sym, ap, ◌∙◌, rules}
use Rattle.cable.specs.Calls.{line_after_put}
use Rattle.cable.specs.Model.{Line, with_line}
use Rattle.reel.specs.Rings.{pair_at, ring_at, spot}
use Rattle.reel.specs.declared.place.Pair.{Pair}
use Rattle.reel.specs.Rows.{parts_of, model_of}
use Rattle.reel.proofs.Changing.{pair_written}
use Rattle.reel.proofs.Putting.{more, put_sound, put_model}
use Rattle.reel.specs.Shows.{sound, row_line}
use Rattle.reel.proofs.row.Row.store.Goals as goal

pub invariant_of-self : goal.invariant_of-self
invariant_of-self g c =
    let r = parts_of g.P.Reuse.reused c.args.self.now in
    let p = c.args.pair in
    let is : c.spot-spot.result ≡ spot r.share p (ring_at r.pairs p).head (ring_at r.pairs p).count = search rules in
    let w : Pair = record { delay = (pair_at c.deref_mut.result.now p).delay; ring = c.with_newest.result } in
    let x : w ≡ more (pair_at r.pairs p) = search rules in
    let n =
    put_sound r (sound g.P.Reuse.reused c.args.self.now) p c.spot-spot.result c.args.byte _
    (pair_written r.pairs c.deref_mut.result.now p w c.deref_mut.ensures.value ∙ ap (set r.pairs p) x)
    is c.requires.there c.requires.room in
    record { some = n.some; few = n.few; shared = search rules; timed = n.timed; short = n.short; turned = n.turned; past = n.past; ordered = n.ordered }

pub returns : goal.returns
returns g c =
    let r = parts_of g.P.Reuse.reused c.args.self.now in
    let p = c.args.pair in
    let is : c.spot-spot.result ≡ spot r.share p (ring_at r.pairs p).head (ring_at r.pairs p).count = search rules in
    let w : Pair = record { delay = (pair_at c.deref_mut.result.now p).delay; ring = c.with_newest.result } in
    let x : w ≡ more (pair_at r.pairs p) = search rules in
    put_model r (sound g.P.Reuse.reused c.args.self.now) p c.spot-spot.result c.args.byte _
    (pair_written r.pairs c.deref_mut.result.now p w c.deref_mut.ensures.value ∙ ap (set r.pairs p) x)
    is c.requires.there c.requires.room
    ∙ ap (λ (x : Line). with_line (model_of r) p (line_after_put x c.args.byte)) (sym (row_line r p c.requires.there))
