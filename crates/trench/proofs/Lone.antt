-- One word alone is a command only if it is `superframe` or `crc6`. Assumes nothing.
use Rattle.std.proofs.Common.{◌≡◌, ◌<◌, ◌≢◌, [], ◌∷◌, length, Err, codes, refl, rules, arith}
use Rattle.std.proofs.lemmas.Slice.Eq.{bytes_eq-Decides}
use Rattle.words.specs.Words.{Words, word}
use Rattle.trench.specs.declared.fault.Fault.TheVariants.{Unknown}
use Rattle.trench.specs.Commands.{answer_to}

pub lone : (words : Words) → length words < 2 → word words 0 ≢ codes "superframe" → word words 0 ≢ codes "crc6" → Err Unknown ≡ answer_to words
lone [] few a b = refl
lone (w ∷ []) few a b = search (rules, bytes_eq-Decides)
lone (w ∷ (v ∷ vs)) few a b = absurd (omega arith)
