-- Words read one after the other: at the word of index i, and past the last. Assumes nothing.
use Rattle.std.proofs.Common.{◌≡◌, ℕ, ◌+◌, ◌<◌, ◌≤◌, [], ◌∷◌, length, drop, Ok, Err, Result, ap, ◌∙◌}
use Rattle.std.proofs.lemmas.List.{at_drop_more, at_drop_all}
use Rattle.words.specs.Words.{Text, Words, and_then, texts, word, each_of}

pub each_next : {X E : Type 0} (read : Text → Result X E) (words : Words) (i : ℕ) (x : X) → i < length words → read (word words i) ≡ Ok x
    → each_of read (texts (drop i words)) ≡ and_then (each_of read (texts (drop (i + 1) words))) (λ xs. Ok (x ∷ xs))
each_next read words i x h e =
    at_drop_more (λ ws. each_of read (texts ws)) words i _ h
    ∙ ap (λ r. and_then r (λ y. and_then (each_of read (texts (drop (i + 1) words))) (λ xs. Ok (y ∷ xs)))) e

pub each_fault : {X E : Type 0} (read : Text → Result X E) (words : Words) (i : ℕ) (fault : E) → i < length words → read (word words i) ≡ Err fault
    → each_of read (texts (drop i words)) ≡ Err fault
each_fault read words i fault h e =
    at_drop_more (λ ws. each_of read (texts ws)) words i _ h
    ∙ ap (λ r. and_then r (λ y. and_then (each_of read (texts (drop (i + 1) words))) (λ xs. Ok (y ∷ xs)))) e

pub each_all : {X E : Type 0} (read : Text → Result X E) (words : Words) (i : ℕ) → length words ≤ i → each_of read (texts (drop i words)) ≡ Ok []
each_all read words i h = at_drop_all (λ ws. each_of read (texts ws)) words i h
