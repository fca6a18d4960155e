-- The place of a word among others. Assumes nothing.
use Rattle.std.proofs.Common.{◌≡◌, cond, refl, ap, arith}
use Rattle.std.specs.List.{position_or_len}
use Rattle.std.proofs.lemmas.List.Recursion.{is_position_or_len}
use Rattle.std.specs.Str.{bytes_eq}
use Rattle.words.specs.Words.{Text, Words}
use Rattle.cable_commands.specs.Reading.{place_of}

-- the place of a word is that of the first that passes the test
pub place_is_first : (wanted : Text) (words : Words) → place_of wanted words ≡ position_or_len (λ w. bytes_eq w.now wanted) words
place_is_first wanted words = is_position_or_len (place_of wanted) (λ w. bytes_eq w.now wanted) refl (λ w ws. ap (cond (bytes_eq w.now wanted) 0) (omega arith)) words
