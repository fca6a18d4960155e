-- A row of delays or extras, filled in word by word. Assumes nothing.
use Rattle.std.proofs.Common.{◌≡◌, ℕ, ◌+◌, ◌<◌, ◌≤◌, List, [], ◌∷◌, ◌++◌, length, get_or, take, drop, set, Ok, Err, Result, sym, refl, ap, ◌∙◌, ⊎_elim, arith, length-set}
use Rattle.std.proofs.lemmas.List.{append_assoc, append-nil, at_drop_more, at_drop_all, get_or_past, get_or-set_other, get_or-take, length-take, take_more_set}
use Rattle.std.proofs.lemmas.Bool.{cases_lt}
use Rattle.cable.specs.Bounds.{most_pairs}
use Rattle.cable.proofs.Numbered.{numbered_at, numbered_by}
use Rattle.words.specs.Words.{Words, and_then, word}
use Rattle.words.proofs.Reading.{each_next, each_fault}
use Rattle.cable_commands.specs.Reading.{ticks_of, all_ticks, filled}
use Rattle.cable_commands.specs.declared.fault.CableFault.{CableFault}
use Rattle.cable_commands.specs.declared.fault.Field.{Field}

-- the numbers ns, and those of the words after them, filled in
abbrev filled_from : Field → List ℕ → Words → Result (List ℕ) CableFault
filled_from field ns words = and_then (all_ticks field words) (λ more. Ok (filled (ns ++ more)))

-- the first i words are read: their numbers are filled in, and the words that are left lead where all of them do
abbrev pub Filled : Field → Words → List ℕ → ℕ → Type 0
Filled field words row i =
    (length row ≡ most_pairs) × (row ≡ filled (take i row)) × (filled_from field (take i row) (drop i words) ≡ filled_from field [] words)

next : (field : Field) (ns : List ℕ) (n : ℕ) (rest : Result (List ℕ) CableFault)
    → and_then (and_then rest (λ more. Ok (n ∷ more))) (λ more. Ok (filled (ns ++ more))) ≡ and_then rest (λ more. Ok (filled (ns ++ (n ∷ []) ++ more)))
next field ns n (Ok more) = ap (λ xs. Ok (filled xs)) (sym (append_assoc ns (n ∷ []) more))
next field ns n (Err e) = refl

word_read : (field : Field) (words : Words) (i : ℕ) (ns : List ℕ) (n : ℕ) → i < length words → Ok n ≡ ticks_of field (word words i)
    → filled_from field (ns ++ (n ∷ [])) (drop (i + 1) words) ≡ filled_from field ns (drop i words)
word_read field words i ns n h e =
    sym (ap (λ r. and_then r (λ more. Ok (filled (ns ++ more)))) (each_next (ticks_of field) words i n h (sym e)) ∙ next field ns n (all_ticks field (drop (i + 1) words)))

pub filled_more : (field : Field) (words : Words) (row : List ℕ) (i n : ℕ) → i < length words → length words ≤ most_pairs
    → Ok n ≡ ticks_of field (word words i) → Filled field words row i → Filled field words (set row i n) (i + 1)
filled_more field words row i n h few e f =
    let grown : take (i + 1) (set row i n) ≡ take i row ++ (n ∷ []) = take_more_set row i n (omega (arith, f.0)) in (
      length-set row i n ∙ f.0,
      numbered_by (set row i n) most_pairs (λ p. get_or (take (i + 1) (set row i n)) p 0) 0 (length-set row i n ∙ f.0)
          (λ q k. ⊎_elim
          (λ (l : q < i + 1). sym (get_or-take (i + 1) (set row i n) q 0 l))
          (λ (l : i + 1 ≤ q).
          get_or-set_other row i q n 0 (λ s. omega arith)
          ∙ ap (λ xs. get_or xs q 0) f.1
          ∙ numbered_at most_pairs (λ p. get_or (take i row) p 0) q 0 k
          ∙ get_or_past (take i row) q 0 (omega (arith, length-take i row))
          ∙ sym (get_or_past (take (i + 1) (set row i n)) q 0 (omega (arith, length-take (i + 1) (set row i n)))))
          (cases_lt q (i + 1))),
      ap (λ ns. filled_from field ns (drop (i + 1) words)) grown ∙ word_read field words i (take i row) n h e ∙ f.2,
    )

pub filled_fault : (field : Field) (words : Words) (row : List ℕ) (i : ℕ) (fault : CableFault) → i < length words
    → Err fault ≡ ticks_of field (word words i) → Filled field words row i → Err fault ≡ filled_from field [] words
filled_fault field words row i fault h e f =
    sym (ap (λ r. and_then r (λ more. Ok (filled (take i row ++ more)))) (each_fault (ticks_of field) words i fault h (sym e))) ∙ f.2

pub filled_all : (field : Field) (words : Words) (row : List ℕ) (i : ℕ) → length words ≤ i → Filled field words row i → Ok row ≡ filled_from field [] words
filled_all field words row i h f =
    ap (λ xs. Ok xs) f.1 ∙ ap (λ ns. Ok (filled ns)) (sym (append-nil (take i row))) ∙ sym (at_drop_all (filled_from field (take i row)) words i h) ∙ f.2
