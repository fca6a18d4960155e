-- A cable that passes the calls on one of its pairs on to a pair of another cable says and leaves what that pair does.
-- Assumes nothing.
use Rattle.std.specs.Prelude.{◌≡◌, ℕ, ◌<◌, ◌≤◌, Bool, true, false, cond, Ok, Err, Option, Result, nat_lt, refl}
use Rattle.std.proofs.Common.{sym, ap, ◌∙◌, ⊎_elim}
use Rattle.std.proofs.lemmas.List.{set-get_or}
use Rattle.std.proofs.lemmas.Bool.{cases_lt, cases_Bool, cond-true, cond-false, ltb-true, ltb-false, lt-ltb, le-ltb}
use Rattle.frame.specs.Refusals.{Refused}
use Rattle.cable.specs.Calls.{has_room, line_after_put, put_said, put_after, has_one, line_after_take, take_said, take_after}
use Rattle.cable.specs.Model.{Line, Model, pairs_of, no_line, line_at, held_at, with_line}
use Rattle.cable.specs.Refusals.{place_refused, pair_refused}
use Rattle.cable.proofs.Shown.{same_models, absent, there_by, with_here}

-- a pair with another delay, which f makes of its own
abbrev pub delayed : (ℕ → ℕ) → Line → Line
delayed f l = record { delay = f l.delay; places = l.places; used = l.used; reuse = l.reuse; held = l.held }

-- F makes of cable m one whose pair p is m's pair q, delayed by f
pub record Passes (F : Model → Model) (f : ℕ → ℕ) (m : Model) (p q : ℕ) : Type 0 where
  pub there : nat_lt p (pairs_of (F m)) ≡ nat_lt q (pairs_of m)
  pub moves : (l : Line) → q < pairs_of m → F (with_line m q l) ≡ with_line (F m) p (delayed f l)

-- what a put on pair p says, where the pair is there or not, and has room or not
abbrev pub put_by : ℕ → Bool → Bool → Result Unit Refused
put_by p there room = cond there (cond room (Ok tt) (Err (place_refused p))) (Err pair_refused)

module _ {F : Model → Model} {f : ℕ → ℕ} {m : Model} {p q : ℕ} (on : Passes F f m p q) where
  pub passed_line : q < pairs_of m → line_at (F m) p ≡ delayed f (line_at m q)
  passed_line h =
      let same : m ≡ with_line m q (line_at m q) = same_models {a = m.left} refl (sym (set-get_or m.lines q no_line)) in
      ap (λ n. line_at n p) (ap F same ∙ on.moves (line_at m q) h)
      ∙ with_here (F m) p (delayed f (line_at m q)) (ltb-true p (pairs_of (F m)) (on.there ∙ lt-ltb q (pairs_of m) h))

  pub passed_absent : pairs_of m ≤ q → line_at (F m) p ≡ no_line
  passed_absent h = absent (F m) p (ltb-false p (pairs_of (F m)) (on.there ∙ le-ltb q (pairs_of m) h))

  -- what does not tell of the delay is the same of both
  pub passed_same : {X : Type 0} (h : Line → X) → ((l : Line) → h (delayed f l) ≡ h l) → h (line_at (F m) p) ≡ h (line_at m q)
  passed_same h blind = ⊎_elim
      (λ (k : q < pairs_of m). ap h (passed_line k) ∙ blind (line_at m q))
      (λ (k : pairs_of m ≤ q). ap h (passed_absent k) ∙ sym (ap h (absent m q k)))
      (cases_lt q (pairs_of m))

  -- a change g of the pair, made where a test t of it holds
  passed_change : (t : Line → Bool) (g : Line → Line) → t no_line ≡ false → ((l : Line) → g (delayed f l) ≡ delayed f (g l))
      → t (line_at (F m) p) ≡ t (line_at m q)
      → F (cond (t (line_at m q)) (with_line m q (g (line_at m q))) m)
      ≡ cond (t (line_at (F m) p)) (with_line (F m) p (g (line_at (F m) p))) (F m)
  passed_change t g none commutes same = ⊎_elim
      (λ (y : t (line_at m q) ≡ true).
      let h = there_by t none m q y in
      ap F (cond-true _ _ _ y) ∙ on.moves (g (line_at m q)) h
      ∙ sym (cond-true _ _ _ (same ∙ y) ∙ ap (with_line (F m) p) (ap g (passed_line h) ∙ commutes (line_at m q))))
      (λ (n : t (line_at m q) ≡ false). ap F (cond-false _ _ _ n) ∙ sym (cond-false _ _ _ (same ∙ n)))
      (cases_Bool (t (line_at m q)))

  pub passed_put_said : put_said (F m) p ≡ put_by p (nat_lt q (pairs_of m)) (has_room (line_at m q))
  passed_put_said = ap (λ t. put_by p t (has_room (line_at (F m) p))) on.there ∙ ap (put_by p _) (passed_same has_room (λ _. refl))

  pub passed_put : (b : ℕ) {n : Model} → n ≡ put_after m q b → F n ≡ put_after (F m) p b
  passed_put b after = ap F after ∙ passed_change has_room (λ l. line_after_put l b) refl (λ _. refl) (passed_same has_room (λ _. refl))

  module _ (same : has_one (line_at (F m) p) ≡ has_one (line_at m q)) where
    pub passed_take_said : {r : Option ℕ} → r ≡ take_said m q → r ≡ take_said (F m) p
    passed_take_said said = let byte = passed_same (λ l. (held_at l 0).byte) (λ _. refl) in rw (same, byte) said

    pub passed_take : {n : Model} → n ≡ take_after m q → F n ≡ take_after (F m) p
    passed_take after = ap F after ∙ passed_change has_one line_after_take refl (λ _. refl) same
