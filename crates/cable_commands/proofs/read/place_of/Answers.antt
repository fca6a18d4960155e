use Rattle.std.proofs.Common.{rules, tests}
use Rattle.std.proofs.lemmas.Iterator.{YieldsList-from_slice}
use Rattle.std.proofs.lemmas.Iterator.Search.{position_from_yields_List}
use Rattle.std.specs.Str.{bytes_eq}
use Rattle.cable_commands.proofs.Finding.{place_is_first}
use Rattle.cable_commands.proofs.read.place_of.Goals as goal

pub returns : goal.returns
returns c =
    rw (place_is_first c.args.wanted.now c.args.words.now)
    (position_from_yields_List (λ w. bytes_eq w.now c.args.wanted.now) _ _ _ c.position.ensures.ran (YieldsList-from_slice c.args.words.now cc) (λ x b q k. search (rules, tests)))
