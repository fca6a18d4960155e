-- The check over the bytes of some words, one word after the other. Assumes nothing.
use Rattle.std.proofs.Common.{◌≡◌, ℕ, ◌+◌, ◌<◌, ◌≤◌, List, [], ◌∷◌, length, drop, Ok, Err, Result, sym, refl, ap, ◌∙◌}
use Rattle.frame.specs.Checks.{crc6_fed, crc6_end}
use Rattle.frame.proofs.Feeding.{crc6_fed_append, crc6_end_nil}
use Rattle.words.specs.Words.{Text, Words, and_then, texts, word}
use Rattle.trench.specs.declared.fault.Fault.{Fault}
use Rattle.trench.specs.Commands.{Said, crc6, bytes_of}
use Rattle.trench.specs.Words.{byte_of}
use Rattle.words.proofs.Reading.{each_next, each_fault, each_all}

-- the check over some bytes that were read, once a register has taken others
abbrev pub checked : ℕ → Result (List ℕ) Fault → Result Said Fault
checked register r = and_then r (λ bs. Ok (crc6 (crc6_end (crc6_fed register bs))))

abbrev pub checked_from : ℕ → List Text → Result Said Fault
checked_from register ws = checked register (bytes_of ws)

-- a byte b read first, then the rest
after : (r b : ℕ) (rest : Result (List ℕ) Fault) → checked r (and_then rest (λ bs. Ok (b ∷ bs))) ≡ checked (crc6_fed r (b ∷ [])) rest
after r b (Ok bs) = ap (λ x. Ok (crc6 (crc6_end x))) (crc6_fed_append r (b ∷ []) bs)
after r b (Err e) = refl

pub word_next : (words : Words) (i r b : ℕ) → i < length words → byte_of (word words i) ≡ Ok b
    → checked_from (crc6_fed r (b ∷ [])) (texts (drop (i + 1) words)) ≡ checked_from r (texts (drop i words))
word_next words i r b h e = sym (ap (checked r) (each_next byte_of words i b h e) ∙ after r b (bytes_of (texts (drop (i + 1) words))))

pub word_fault : (words : Words) (i r : ℕ) (fault : Fault) → i < length words → byte_of (word words i) ≡ Err fault
    → checked_from r (texts (drop i words)) ≡ Err fault
word_fault words i r fault h e = ap (checked r) (each_fault byte_of words i fault h e)

pub words_all : (words : Words) (i r : ℕ) → length words ≤ i → checked_from r (texts (drop i words)) ≡ Ok (crc6 (crc6_end r))
words_all words i r h = ap (checked r) (each_all byte_of words i h) ∙ ap (λ x. Ok (crc6 x)) (crc6_end_nil r)
