-- A list of pairs in which one is changed. Assumes nothing.
use Rattle.std.proofs.Common.{◌≡◌, ℕ, ◌<◌, List, ◌++◌, length, take, drop, set, sym, ap, ◌∙◌, length-set}
use Rattle.std.proofs.Math.Seq.{take-append_seam}
use Rattle.std.proofs.lemmas.List.{get_or-set_same, get_or-set_other}
use Rattle.std.specs.List.{refill}
use Rattle.reel.specs.Rings.{empty_pair, pair_at}
use Rattle.reel.specs.declared.place.Pair.{Pair}

-- what a write of one pair leaves of a vector
pub pair_written : (old read : List Pair) (p : ℕ) (x : Pair) → read ≡ old → refill (length old) old (set read p x) ≡ set old p x
pair_written old read p x e =
    let new : List Pair = set read p x in
    ap (λ n. take n (new ++ drop (length new) old)) (sym (length-set read p x ∙ ap length e))
    ∙ take-append_seam new (drop (length new) old) ∙ ap (λ xs. set xs p x) e

module _ (old new : List Pair) (p : ℕ) (x : Pair) (is : new ≡ set old p x) where
  pub pair_here : p < length old → pair_at new p ≡ x
  pair_here l = ap (λ xs. pair_at xs p) is ∙ get_or-set_same old p x (empty_pair 0) l

  pub pair_there : (q : ℕ) → (q ≡ p → ⊥) → pair_at new q ≡ pair_at old q
  pair_there q ne = ap (λ xs. pair_at xs q) is ∙ get_or-set_other old p q x (empty_pair 0) ne

  pub pairs_kept : length new ≡ length old
  pairs_kept = ap length is ∙ length-set old p x
