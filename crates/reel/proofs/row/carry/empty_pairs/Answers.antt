use Rattle.std.proofs.Common.{◌≡◌, ℕ, ◌+◌, ◌++◌, ◌∷◌, [], List, length, get_or, take, ap, ◌∙◌, lit<, arith}
use Rattle.std.proofs.lemmas.List.{get_or-take, length-take-le}
use Rattle.std.proofs.lemmas.List.FromFn.{map-range_with_len_more}
use Rattle.cable.specs.Model.{numbered}
use Rattle.cable.proofs.Numbered.{numbered_length, numbered_same}
use Rattle.reel.specs.Rings.{empty_pair}
use Rattle.reel.specs.declared.place.Pair.{Pair}
use Rattle.reel.proofs.row.carry.empty_pairs.Goals as goal

abbrev each : List ℕ → ℕ → Pair
each delays p = empty_pair (get_or delays p 0)

pub push-requires : goal.push-requires
push-requires c =
    let so_far = ap length c.loop-delay.invariant ∙ numbered_length c.loop-delay.delay-index (each (take c.args.count c.args.delays)) in
    let all = length-take-le c.args.count c.args.delays (omega arith) in
    (lit< tt, omega (arith, so_far, all, c.requires, c.loop-delay-test.true))

pub loop-delay-preserved : goal.loop-delay-preserved
loop-delay-preserved c =
    let i = c.loop-delay.delay-index in
    let f = each (take c.args.count c.args.delays) in
    let more : numbered (i + 1) f ≡ numbered i f ++ f i ∷ [] = map-range_with_len_more f 0 i i (omega arith) in
    cc (c.push.ensures.items, c.new.ensures, c.loop-delay.invariant)

pub returns : goal.returns
returns c =
    let all = length-take-le c.args.count c.args.delays (omega arith) in
    let f = each (take c.args.count c.args.delays) in
    let ends : c.loop-delay.delay-index ≡ c.args.count = omega (arith, all, c.loop-delay-test.false, c.loop-delay.auto.delay-index-end) in
    c.loop-delay.invariant ∙ ap (λ n. numbered n f) ends
    ∙ numbered_same c.args.count f (each c.args.delays) (empty_pair 0) (λ p l. ap empty_pair (get_or-take c.args.count c.args.delays p 0 l))
