-- A cable without places shows a pair that is there as it shows one that is not. Assumes nothing.
use Rattle.std.specs.Prelude.{◌≡◌, ℕ, ◌<◌, ◌≤◌, map, None}
use Rattle.std.proofs.Common.{ap, ⊎_elim, arith}
use Rattle.std.proofs.lemmas.Bool.{cases_lt}
use Rattle.cable.specs.Bounds.{most_pairs, most_ticks}
use Rattle.cable.specs.Calls.{line_after_tick, has_one}
use Rattle.cable.specs.Formed.{Formed}
use Rattle.cable.specs.Model.{no_line, pairs_of, line_at, numbered}
use Rattle.cable.proofs.Cases.{Taken, take_none}
use Rattle.cable.proofs.Numbered.{numbered_length, numbered_at, numbered_past, numbered_map}
use Rattle.severed.specs.Severed.{without_places}

module _ (n left : ℕ) where
  pub pairs_shown : pairs_of (without_places n left) ≡ n
  pairs_shown = numbered_length n (λ _. no_line)

  pub line_shown : (p : ℕ) → line_at (without_places n left) p ≡ no_line
  line_shown p = ⊎_elim
      (λ (l : p < n). numbered_at n (λ _. no_line) p no_line l)
      (λ (l : n ≤ p). numbered_past n (λ _. no_line) p no_line l)
      (cases_lt p n)

  pub nothing_taken : (p : ℕ) → Taken (without_places n left) p None (without_places n left)
  nothing_taken p = take_none (without_places n left) p (ap has_one (line_shown p))

  pub formed : 1 ≤ n → n ≤ most_pairs → left ≤ most_ticks → Formed (without_places n left)
  formed some few timed = record {
    some = omega (arith, pairs_shown);
    few = omega (arith, pairs_shown);
    timed = timed;
    each = λ p. rw (line_shown p) (record { short = omega arith; placed = omega arith; within = omega arith; falls = λ j k le h. omega arith });
  }

-- nothing grows older
pub lines_ticked : (n : ℕ) → map line_after_tick (numbered n (λ _. no_line)) ≡ numbered n (λ _. no_line)
lines_ticked n = numbered_map line_after_tick n (λ _. no_line) no_line
