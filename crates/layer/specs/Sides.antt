-- What two cables side by side show and leave. Assumes nothing.
use Rattle.std.specs.Prelude.{◌≡◌, ℕ, ◌+◌, ◌-◌, ◌<◌, ◌≤◌, min, ◌++◌, take, Some, None, Option, nat_lt, refl}
use Rattle.std.proofs.Common.{sym, ap, subst, ◌∙◌, arith, length-append}
use Rattle.std.proofs.Math.Seq.{take-set-lt}
use Rattle.std.proofs.lemmas.List.{length-take, map-append, set-append_left, set-append_right, take-map}
use Rattle.std.proofs.lemmas.Bool.{cond_both, ltb-true, ltb-false}
use Rattle.std.proofs.lemmas.Bool.Decides.{nat_tests}
use Rattle.cable.specs.Bounds.{most_pairs}
use Rattle.cable.specs.Calls.{line_after_tick, tick_after}
use Rattle.cable.specs.Formed.{Formed, FormedLine}
use Rattle.cable.specs.Model.{Model, pairs_of, line_at}
use Rattle.cable.proofs.Cases.{tick_done}
use Rattle.cable.proofs.Shown.{same_models, absent}
use Rattle.layer.specs.Joint.{side_by_side, side_of, shown_at}
use Rattle.layer.specs.declared.joint.Side.{Side}
use Rattle.layer.specs.declared.joint.Side.TheVariants.{First, Second}
use Rattle.layer.specs.Passed.{Passes, passed_same}

-- pair p of a joint is the one at a side
abbrev pub PassesTo : Model → Model → ℕ → Option Side → Type 0
PassesTo a b p (Some (First q)) = Passes (λ m. side_by_side m b) (λ d. d) a p q
PassesTo a b p (Some (Second q)) = Passes (side_by_side a) (λ d. d) b p q
PassesTo a b p None = pairs_of (side_by_side a b) ≤ p

module _ (a b : Model) where
  pub joint_pairs : pairs_of (side_by_side a b) ≡ min most_pairs (pairs_of a + pairs_of b)
  joint_pairs = length-take most_pairs (a.lines ++ b.lines) ∙ ap (min most_pairs) (length-append a.lines b.lines)

  first_passes : pairs_of a ≤ most_pairs → (p : ℕ) → p < pairs_of a → PassesTo a b p (Some (First p))
  first_passes few p h = record {
    there = rw joint_pairs (grind (arith, nat_tests));
    moves = λ l _. same_models {a = min a.left b.left} refl
        (ap (take most_pairs) (sym (set-append_left a.lines b.lines p l h))
        ∙ take-set-lt most_pairs (a.lines ++ b.lines) p l (omega arith));
  }

  second_passes : (p : ℕ) → pairs_of a ≤ p → p < most_pairs → PassesTo a b p (Some (Second (p - pairs_of a)))
  second_passes p h few = record {
    there = rw joint_pairs (grind (arith, nat_tests));
    moves = λ l _. same_models {a = min a.left b.left} refl
        (ap (take most_pairs) (sym (set-append_right a.lines b.lines (pairs_of a) p l refl h))
        ∙ take-set-lt most_pairs (a.lines ++ b.lines) p l few);
  }

  pub side_passes : pairs_of a ≤ most_pairs → (p : ℕ) (s : Option Side) → s ≡ side_of (pairs_of a) p → PassesTo a b p s
  side_passes few p s e = subst (PassesTo a b p) (sym e) (cond_both (nat_lt p (pairs_of a)) (Some (First p)) _ (PassesTo a b p)
      (λ t. first_passes few p (ltb-true p (pairs_of a) t))
      (λ t. cond_both (nat_lt p most_pairs) (Some (Second (p - pairs_of a))) None (PassesTo a b p)
      (λ u. second_passes p (ltb-false p (pairs_of a) t) (ltb-true p most_pairs u))
      (λ u. omega (arith, joint_pairs, ltb-false p most_pairs u))))

  pub side_shows : pairs_of a ≤ most_pairs → (p : ℕ) (s : Option Side) → s ≡ side_of (pairs_of a) p → line_at (side_by_side a b) p ≡ shown_at a b s
  side_shows few p (Some (First q)) e = passed_same (side_passes few p (Some (First q)) e) (λ l. l) (λ _. refl)
  side_shows few p (Some (Second q)) e = passed_same (side_passes few p (Some (Second q)) e) (λ l. l) (λ _. refl)
  side_shows few p None e = absent (side_by_side a b) p (side_passes few p None e)

  side_formed : Formed a → Formed b → (s : Option Side) → FormedLine (shown_at a b s)
  side_formed f g (Some (First q)) = f.each q
  side_formed f g (Some (Second q)) = g.each q
  side_formed f g None = record { short = omega arith; placed = omega arith; within = omega arith; falls = λ j k le h. omega arith }

  pub joint_formed : Formed a → Formed b → Formed (side_by_side a b)
  joint_formed f g = record {
    some = omega (arith, joint_pairs, f.some);
    few = omega (arith, joint_pairs);
    timed = omega (arith, f.timed);
    each = λ p. let s = side_of (pairs_of a) p in rw (side_shows f.few p s refl) (side_formed f g s);
  }

  pub joint_tick : 0 < min a.left b.left → {x y : Model} → x ≡ tick_after a → y ≡ tick_after b → side_by_side x y ≡ tick_after (side_by_side a b)
  joint_tick h {x} {y} first second =
      ap (λ m. side_by_side m y) (first ∙ sym (tick_done a (omega arith)).after)
      ∙ ap (side_by_side _) (second ∙ sym (tick_done b (omega arith)).after)
      ∙ same_models (omega arith)
      (ap (take most_pairs) (sym (map-append line_after_tick a.lines b.lines)) ∙ take-map line_after_tick most_pairs (a.lines ++ b.lines))
      ∙ (tick_done (side_by_side a b) h).after
