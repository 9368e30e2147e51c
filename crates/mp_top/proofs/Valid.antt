-- The status of a valid plan comes exactly with its text, or with that of its steps.
use Rattle.std.proofs.Common.{◌≡◌, ◌↔◌, ℕ, ◌==◌, Bool, true, false, eqb, List, [], ◌∷◌, ◌++◌, refl, sym, ap, ◌∙◌, arith, if◌then◌else◌}
use Rattle.std.specs.Prelude.{codes, decimal}
use Rattle.std.proofs.lemmas.Bool.{eqb-true}
use Rattle.mp_forms.specs.declared.factor.Factor.{Factor}
use Rattle.mp_joint.specs.Fact.{Text}
use Rattle.mp_joint.specs.declared.plan.PlanStep.{PlanStep}
use Rattle.mp_optimality.specs.Told.{is_valid}
use Rattle.mp_optimality.proofs.Telling.{first_of, not_valid_begins}
use Rattle.mp_plan_verdict.specs.Verdict.{verdict}
use Rattle.mp_plan_verdict.specs.declared.verdict.CheckVerdict.{CheckVerdict}
use Rattle.mp_plan_verdict.specs.declared.verdict.CheckVerdict.TheVariants.{Valid, NoAction, Missing, Forbidden, GoalMissing, GoalForbidden}
use Rattle.mp_plans.specs.Packed.{steps_text}
use Rattle.mp_plans.specs.Verdict.{verdict_line, verdict_text}
use Rattle.mp_plans.specs.declared.plan.PlanText.{PlanText}
use Rattle.mp_steps.specs.Packed.{IsNotValid, IsPacked}
use Rattle.mp_steps.specs.declared.plan.Packed.{Packed}
use Rattle.mp_top.specs.Decided.{IsToldByTeam, IsToldOfPlan, IsToldOfSteps}
use Rattle.mp_top.specs.Complete.{TellsValid, valid_text}
use Rattle.mp_top.specs.Outcome.{packing_of, plan_status, told_plan}
use Rattle.mp_top.specs.declared.decision.Decision.{Decision}
use Rattle.mp_top.specs.declared.status.Status.{Status}
use Rattle.mp_top.specs.declared.status.Status.TheVariants as status

abbrev IsValidText : Text → Type 0
IsValidText text = (cost : ℕ) × (text ≡ valid_text cost)

-- a text that begins otherwise
not_valid : (ended : Status) (text : Text) → ended ≡ status.No → first_of text ≡ 105 → (ended ≡ status.Solved) ↔ IsValidText text
unfolding first_of
not_valid ended text is begins =
    (λ solved. absurd (cc), λ v. let same : 118 ≡ 105 = ap first_of (sym v.1) ∙ begins in absurd (omega (arith, same)))

by_cost : (same : Bool) (cost : ℕ) (ended : Status) (text : Text) → text ≡ (if same then codes "valid cost " ++ decimal cost else codes "invalid cost is " ++ decimal cost) ++ 10 ∷ [] → ended ≡ (if same then status.Solved else status.No) → (ended ≡ status.Solved) ↔ IsValidText text
unfolding first_of
by_cost true cost ended text printed is = (λ _. (cost, printed), λ _. is)
by_cost false cost ended text printed is = not_valid ended text is (ap first_of printed)

valid_exactly : (found : CheckVerdict) (stated : ℕ) (ended : Status) (text : Text) → text ≡ verdict_text found stated → ended ≡ plan_status found stated → (ended ≡ status.Solved) ↔ IsValidText text
unfolding first_of verdict_line
valid_exactly (Valid cost) stated ended text printed is = by_cost (cost == stated) cost ended text printed is
valid_exactly (NoAction time) stated ended text printed is = not_valid ended text is (ap first_of printed)
valid_exactly (Missing time fact) stated ended text printed is = not_valid ended text is (ap first_of printed)
valid_exactly (Forbidden time fact) stated ended text printed is = not_valid ended text is (ap first_of printed)
valid_exactly (GoalMissing fact) stated ended text printed is = not_valid ended text is (ap first_of printed)
valid_exactly (GoalForbidden fact) stated ended text printed is = not_valid ended text is (ap first_of printed)

-- ---- where the steps are asked for

-- a text of steps begins otherwise than a verdict
not_steps : (ended : Status) (text other : Text) → ended ≡ status.No → text ≡ other → first_of other ≡ 105 → (steps : Text) → first_of steps ≡ 99
    → (ended ≡ status.Solved) ↔ (text ≡ steps)
not_steps ended text other is printed begins steps begins_so =
    (λ solved. absurd (cc), λ same. let e : 105 ≡ 99 = sym begins ∙ ap first_of (sym printed ∙ same) ∙ begins_so in absurd (omega (arith, e)))

steps_by : (valid : Bool) (ended : Status) (text steps other : Text) → text ≡ (if valid then steps else other)
    → ended ≡ (if valid then status.Solved else status.No) → first_of steps ≡ 99 → (valid ≡ false → first_of other ≡ 105)
    → (ended ≡ status.Solved) ↔ (text ≡ steps)
steps_by true ended text steps other printed is begins found = (λ _. printed, λ _. is)
steps_by false ended text steps other printed is begins found = not_steps ended text other is printed (found refl) steps begins

steps_begin : (plan : List PlanStep) (packed : Packed) → first_of (steps_text plan packed) ≡ 99
unfolding first_of
steps_begin plan packed = refl

pub told_exactly : (steps : Bool) (team : List Factor) (plan : PlanText) (ended : Status) (text : Text) → text ≡ told_plan steps team plan
    → ended ≡ plan_status (verdict team plan.plan) plan.cost → (ended ≡ status.Solved) ↔ TellsValid steps team plan text
told_exactly false team plan ended text printed is = valid_exactly (verdict team plan.plan) plan.cost ended text printed is
told_exactly true team plan ended text printed is =
    let packed = packing_of team plan.plan plan.cost in
    steps_by (is_valid (verdict team plan.plan) plan.cost) ended text (steps_text plan.plan packed) (verdict_text (verdict team plan.plan) plan.cost)
    printed is (steps_begin plan.plan packed) (not_valid_begins (verdict team plan.plan) plan.cost)

-- ---- what is decided

not_valid_found : (found : CheckVerdict) (stated : ℕ) → IsNotValid found → is_valid found stated ≡ false
not_valid_found (Valid cost) stated wrong = absurd wrong
not_valid_found (NoAction time) stated wrong = refl
not_valid_found (Missing time fact) stated wrong = refl
not_valid_found (Forbidden time fact) stated wrong = refl
not_valid_found (GoalMissing fact) stated wrong = refl
not_valid_found (GoalForbidden fact) stated wrong = refl

abbrev by_validity : List Factor → PlanText → Bool → Text
by_validity team plan valid =
    if valid then steps_text plan.plan (packing_of team plan.plan plan.cost) else verdict_text (verdict team plan.plan) plan.cost

-- where the steps are not asked for
pub told_found : (team : List Factor) (plan : PlanText) (found : CheckVerdict) (d : Decision) → found ≡ verdict team plan.plan
    → IsToldOfPlan found plan.cost d → IsToldByTeam false team plan d
told_found team plan found d is h = record {
  empty = h.empty;
  printed = h.printed ∙ ap (λ v. verdict_text v plan.cost) is;
  ended = h.ended ∙ ap (λ v. plan_status v plan.cost) is;
}

-- where they are, of a plan that does not solve
pub told_invalid : (team : List Factor) (plan : PlanText) (found : CheckVerdict) (d : Decision) → found ≡ verdict team plan.plan → IsNotValid found
    → IsToldOfPlan found plan.cost d → IsToldByTeam true team plan d
told_invalid team plan found d is wrong h = record {
  empty = h.empty;
  printed =
      h.printed ∙ ap (λ v. verdict_text v plan.cost) is
      ∙ sym (ap (by_validity team plan) (ap (λ v. is_valid v plan.cost) (sym is) ∙ not_valid_found found plan.cost wrong));
  ended = h.ended ∙ ap (λ v. plan_status v plan.cost) is;
}

-- and of one that does
told_by_cost : (team : List Factor) (plan : PlanText) (packed : Packed) (same : Bool) → IsPacked team plan.plan packed → eqb packed.cost plan.cost ≡ same
    → (if same then steps_text plan.plan packed else verdict_text (Valid packed.cost) plan.cost) ≡ by_validity team plan same
told_by_cost team plan packed true p e =
    let cost = eqb-true packed.cost plan.cost e in
    ap (steps_text plan.plan) (λ i. record { cost = cost i; steps = p.steps i; chain = p.chain i })
told_by_cost team plan packed false p e = ap (λ v. verdict_text v plan.cost) (sym p.valid)

pub told_packed : (team : List Factor) (plan : PlanText) (packed : Packed) (d : Decision) → IsPacked team plan.plan packed
    → IsToldOfSteps packed plan d → IsToldByTeam true team plan d
told_packed team plan packed d p h = record {
  empty = h.empty;
  printed =
      h.printed ∙ told_by_cost team plan packed (eqb packed.cost plan.cost) p refl
      ∙ ap (by_validity team plan) (ap (λ v. is_valid v plan.cost) (sym p.valid));
  ended = h.ended ∙ ap (λ v. plan_status v plan.cost) (sym p.valid);
}
