-- A plan is told to be optimal exactly where the plan is valid and the audit shows that no plan is cheaper.
use Rattle.std.proofs.Common.{◌≡◌, ◌↔◌, ℕ, ◌&&◌, Bool, true, false, [], ◌∷◌, ◌++◌, refl, sym, ap, ◌∙◌, arith, if◌then◌else◌}
use Rattle.std.specs.Prelude.{codes, decimal}
use Rattle.mp_audit.specs.declared.verdict.AuditVerdict.{AuditVerdict}
use Rattle.mp_audit.specs.declared.verdict.AuditVerdict.TheVariants.{Holds, Double, Start, Goal, Step}
use Rattle.mp_plan_verdict.specs.declared.verdict.CheckVerdict.{CheckVerdict}
use Rattle.mp_plan_verdict.specs.declared.verdict.CheckVerdict.TheVariants.{Valid, NoAction, Missing, Forbidden, GoalMissing, GoalForbidden}
use Rattle.mp_plans.specs.Verdict.{verdict_line, verdict_text}
use Rattle.mp_text.specs.Lines.{Text}
use Rattle.mp_text.specs.Outcome.{labelled}
use Rattle.mp_optimality.specs.Told.{audit_line, audit_text, is_optimal, is_shown, is_valid, optimal_text, told_audit}

-- the first byte of a text
unfoldable pub first_of : Text → ℕ
first_of [] = 0
first_of (byte ∷ text) = byte

-- a verdict that a plan is not valid at the cost that is stated
pub not_valid_begins : (found : CheckVerdict) (stated : ℕ) → is_valid found stated ≡ false → first_of (verdict_text found stated) ≡ 105
unfolding first_of verdict_line
not_valid_begins (Valid cost) stated h = ap (λ b. first_of ((if b then codes "valid cost " ++ decimal cost else codes "invalid cost is " ++ decimal cost) ++ 10 ∷ [])) h
not_valid_begins (NoAction time) stated h = refl
not_valid_begins (Missing time fact) stated h = refl
not_valid_begins (Forbidden time fact) stated h = refl
not_valid_begins (GoalMissing fact) stated h = refl
not_valid_begins (GoalForbidden fact) stated h = refl

-- the text of an audit that shows it, and of one that does not
bound_text : ℕ → ℕ → Bool → Text
bound_text bound cost same =
    (if same then labelled (codes "optimal cost ") cost else labelled (codes "invalid bound is ") bound) ++ 10 ∷ []

shown_text : (audit : AuditVerdict) (bound cost : ℕ) → is_shown audit bound cost ≡ true → audit_text audit bound cost ≡ optimal_text cost
unfolding audit_line bound_text
shown_text Holds bound cost h = ap (bound_text bound cost) h
shown_text (Double entry) bound cost h = absurd (cc)
shown_text (Start agent) bound cost h = absurd (cc)
shown_text (Goal entry) bound cost h = absurd (cc)
shown_text (Step entry action agent) bound cost h = absurd (cc)

otherwise : (n : ℕ) → n ≡ 102 → n ≡ 111 → ⊥
otherwise n f o = omega (arith, f, o)

not_shown : (audit : AuditVerdict) (bound cost : ℕ) → is_shown audit bound cost ≡ false → first_of (audit_text audit bound cost) ≡ 111 → ⊥
unfolding first_of audit_line bound_text
not_shown Holds bound cost h o =
    let e : first_of (audit_text Holds bound cost) ≡ 105 = ap (λ b. first_of (bound_text bound cost b)) h in
    omega (arith, e, o)
not_shown (Double entry) bound cost h o = otherwise _ refl o
not_shown (Start agent) bound cost h o = otherwise _ refl o
not_shown (Goal entry) bound cost h o = otherwise _ refl o
not_shown (Step entry action agent) bound cost h o = otherwise _ refl o

optimal_begins : (cost : ℕ) → first_of (optimal_text cost) ≡ 111
unfolding first_of
optimal_begins cost = refl

-- by cases of both
module _ (found : CheckVerdict) (audit : AuditVerdict) (bound stated : ℕ) where
  abbrev by_valid : Bool → Text
  by_valid valid = if valid then audit_text audit bound stated else verdict_text found stated

  exactly : (valid shown : Bool) → is_valid found stated ≡ valid → is_shown audit bound stated ≡ shown
      → ((valid && shown) ≡ true) ↔ (by_valid valid ≡ optimal_text stated)
  exactly true true v s = (λ _. shown_text audit bound stated s, λ _. refl)
  exactly true false v s =
      (λ is. absurd (cc), λ same. absurd (not_shown audit bound stated s (ap first_of same ∙ optimal_begins stated)))
  exactly false shown v s = (
    λ is. absurd (cc),
    λ same.
        let o : first_of (verdict_text found stated) ≡ 111 = ap first_of same ∙ optimal_begins stated in
        let e = not_valid_begins found stated v in
        absurd (omega (arith, e, o)),
  )

  pub told_exactly : (optimal : Bool) (text : Text) → optimal ≡ is_optimal found audit bound stated
      → text ≡ told_audit found audit bound stated → (optimal ≡ true) ↔ (text ≡ optimal_text stated)
  told_exactly optimal text is told =
      let both = exactly (is_valid found stated) (is_shown audit bound stated) refl refl in
      (λ yes. told ∙ both.0 (sym is ∙ yes), λ same. is ∙ both.1 (sym told ∙ same))
