-- What `parse` makes of a word is the number that its digits write. Assumes nothing.
use Rattle.std.proofs.Common.{◌≡◌, ℕ, true, false, ◌==◌, List, [], ◌∷◌, slice_index, None, Ok, Err, Result, refl, arith, rules, tests}
use Rattle.std.proofs.lemmas.Str.Parse.{IsNumeralModel, numerals_by_fold, tells_all_ascii_digits, parse_plain}
use Rattle.std.proofs.lemmas.Bool.Decides.{nat_tests}
use Rattle.std.specs.Result.{result_ok}
use Rattle.std.specs.Str.Parse.{ParsesUnsigned}
use Rattle.std.specs.Str.{all_ascii_digits}
use Rattle.words.specs.Words.{digits_of, decimal_of}

own : IsNumeralModel (λ ds. all_ascii_digits ds ≡ true) (digits_of 0)
own = numerals_by_fold _ tells_all_ascii_digits digits_of (search rules)

-- a sign is no digit
pub signed_number : (word : List ℕ) → (slice_index word 0 == 43) ≡ true → decimal_of word ≡ None
unfolding decimal_of
signed_number [] h = refl
signed_number (x ∷ xs) h = search (rules, tests)

pub unsigned_number : {E : Type 0} (word : List ℕ) (r : Result ℕ E) → ParsesUnsigned 64 10 word r → (slice_index word 0 == 43) ≡ false → result_ok r ≡ decimal_of word
unfolding decimal_of
unsigned_number {E} word (Ok x) h unsigned = let read = parse_plain own {E = E} 64 word (Ok x) h (search rules) in grind (arith, nat_tests)
unsigned_number {E} word (Err e) h unsigned = let read = parse_plain own {E = E} 64 word (Err e) h (search rules) in grind (arith, nat_tests)
