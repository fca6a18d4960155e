use Rattle.std.proofs.Common.{◌≡◌, cond, ltb, length, is_some, sym, ap, ◌∙◌, rules}
use Rattle.cable.specs.Model.{no_line}
use Rattle.reel.specs.Rows.{parts_of, line_of}
use Rattle.reel.specs.Shows.{has_counted, has_shown}
use Rattle.reel.proofs.row.Row.find.Goals as goal

pub returns-clause-counted : goal.returns-clause-counted
returns-clause-counted g c =
    let r = parts_of g.P.Reuse.reused c.args.self.now in
    let there : is_some c.copied.result ≡ ltb c.args.pair (length r.pairs) = search rules in
    there ∙ has_counted r c.args.pair

pub returns-clause-shows : goal.returns-clause-shows
returns-clause-shows g c =
    let r = parts_of g.P.Reuse.reused c.args.self.now in
    let there : is_some c.copied.result ≡ ltb c.args.pair (length r.pairs) = search rules in
    has_shown r c.args.pair ∙ ap (λ b. cond b (line_of r c.args.pair) no_line) (sym there)
