use Rattle.std.proofs.Common.{ap, arith}
use Rattle.cable.specs.Model.{Line}
use Rattle.cable.proofs.Cases.{put_absent, put_full}
use Rattle.severed.specs.Severed.{without_places}
use Rattle.severed.specs.Shows.{pairs_shown, line_shown}
use Rattle.severed.proofs.SeveredCable.put.Goals as goal

pub returns-then-pair-self : goal.returns-then-pair-self
returns-then-pair-self c =
    let n = c.args.self.now.pairs in
    let left = c.args.self.now.left in
    let line = line_shown n left c.args.pair in
    let e =
    put_full (without_places n left) c.args.pair c.args.byte (omega (arith, pairs_shown n left))
    (omega (arith, ap (λ (l : Line). l.places) line, ap (λ (l : Line). l.used) line)) in
    record { said = e.said; after = e.after }

pub returns-else-pair-self : goal.returns-else-pair-self
returns-else-pair-self c =
    let n = c.args.self.now.pairs in
    let left = c.args.self.now.left in
    let e = put_absent (without_places n left) c.args.pair c.args.byte (omega (arith, pairs_shown n left)) in
    record { said = e.said; after = e.after }
