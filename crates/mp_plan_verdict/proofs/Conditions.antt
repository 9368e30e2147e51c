-- A condition holds as it is written exactly where the facts that it asks for are true and those under `not` are false.
use Rattle.std.proofs.Common.{◌≡◌, ℕ, ◌+◌, Bool, true, false, cond, not, ◌&&◌, List, [], ◌∷◌, ◌++◌, Option, Some, None, if◌then◌else◌, refl, sym, ap, ◌∙◌, inl, inr}
use Rattle.std.specs.List.{list_all}
use Rattle.std.specs.Option.{option_map, option_map_or, option_or, is_none}
use Rattle.std.specs.Prelude.{option_and_then}
use Rattle.std.proofs.lemmas.Bool.{cases_Bool}
use Rattle.std.proofs.lemmas.List.Folds.{find-append}
use Rattle.std.proofs.lemmas.Option.{same_Some, none-some}
use Rattle.mp_forms.specs.declared.typed_values.Typed.{Typed}
use Rattle.mp_forms.specs.declared.literal.Literal.{Literal}
use Rattle.mp_forms.specs.declared.schema_values.Schema.{Schema}
use Rattle.mp_forms.specs.declared.factor.Factor.{Factor}
use Rattle.mp_joint.specs.declared.fact.NamedFact.{NamedFact}
use Rattle.mp_joint.specs.declared.fact.SignedFact.{SignedFact}
use Rattle.mp_joint.specs.declared.plan.PlanStep.{PlanStep}
use Rattle.mp_joint.specs.Fact.{Text}
use Rattle.mp_joint.specs.FactorContribution.{privates_of, facts_of, may_stand_for, instance_with, instance_of_schema, factor_contribution, contributions_from, team_of}
use Rattle.mp_joint.specs.Grounding.{asked_atoms, negated_atoms, fact_of, cost_of}
use Rattle.mp_joint.specs.Instance.{Instance, State, holds, applies, all_true, none_true}
use Rattle.mp_joint.specs.Plan.{Contribution, instance_of, joint_goal, joint_never, is_goal}
use Rattle.mp_plan_verdict.specs.Means.{first_false}
use Rattle.mp_plan_verdict.specs.Written.{signed_facts, action_of, asked_at, factor_of, written, goals_from}
use Rattle.mp_plan_verdict.proofs.Contributions.{part_of}

-- ---- tests

none_in_cond : (b : Bool) (x : SignedFact) (o : Option SignedFact) → is_none (cond (not b) (Some x) o) ≡ (b && is_none o)
none_in_cond true x o = refl
none_in_cond false x o = refl

asked_first : (b a n : Bool) → (b && (a && n)) ≡ ((b && a) && n)
asked_first true a n = refl
asked_first false a n = refl

negated_first : (b a n : Bool) → (b && (a && n)) ≡ (a && (b && n))
negated_first true true n = refl
negated_first true false n = refl
negated_first false true n = refl
negated_first false false n = refl

both_parts : (a n c m : Bool) → ((a && n) && (c && m)) ≡ ((a && c) && (n && m))
both_parts true true true m = refl
both_parts true true false m = refl
both_parts true false true m = refl
both_parts true false false m = refl
both_parts false n c m = refl

-- ---- literals

abbrev asked_facts : ℕ → Factor → List Typed → List Text → List Literal → List NamedFact
asked_facts agent factor params objects ls = facts_of agent factor params objects (asked_atoms ls)

abbrev negated_facts : ℕ → Factor → List Typed → List Text → List Literal → List NamedFact
negated_facts agent factor params objects ls = facts_of agent factor params objects (negated_atoms ls)

pub all_hold : (s : State) (agent : ℕ) (factor : Factor) (params : List Typed) (objects : List Text) (ls : List Literal)
    → is_none (first_false s (signed_facts agent factor params objects ls))
    ≡ (all_true s (asked_facts agent factor params objects ls) && none_true s (negated_facts agent factor params objects ls))
all_hold s agent factor params objects [] = refl
all_hold s agent factor params objects (l ∷ ls) =
    let fact = fact_of agent (privates_of factor) params objects l.atom in
    let x : SignedFact = record { positive = l.positive; fact = fact } in
    let others = first_false s (signed_facts agent factor params objects ls) in
    let a = all_true s (asked_facts agent factor params objects ls) in
    let n = none_true s (negated_facts agent factor params objects ls) in
    let rest : is_none others ≡ (a && n) = all_hold s agent factor params objects ls in
    none_in_cond (holds s x) x others ∙ ap (λ b. holds s x && b) rest
    ∙ elim (cases_Bool l.positive) [
      | inl positive ↦ rw positive (asked_first (s fact) a n)
      | inr negative ↦ rw negative (negated_first (not (s fact)) a n)
    ]

-- ---- an instance

of_test : (s : State) (agent : ℕ) (factor : Factor) (schema : Schema) (objects : List Text) (i : Instance) (test : Bool) (cost : Option ℕ)
    → (if test then option_map (instance_with agent factor schema objects) cost else None) ≡ Some i
    → is_none (first_false s (signed_facts agent factor schema.params objects schema.pre)) ≡ applies i s
of_test s agent factor schema objects i true None h = absurd (none-some i h)
of_test s agent factor schema objects i false cost h = absurd (none-some i h)
of_test s agent factor schema objects i true (Some c) h =
    all_hold s agent factor schema.params objects schema.pre
    ∙ ap (λ (j : Instance). applies j s) (same_Some (instance_with agent factor schema objects c) i h)

of_schema : (s : State) (agent : ℕ) (factor : Factor) (objects : List Text) (i : Instance) (o : Option Schema)
    → option_and_then (instance_of_schema agent factor objects) o ≡ Some i
    → is_none (first_false s (option_map_or (λ (x : Schema). signed_facts agent factor x.params objects x.pre) o [])) ≡ applies i s
of_schema s agent factor objects i None h = absurd (none-some i h)
of_schema s agent factor objects i (Some schema) h =
    of_test s agent factor schema objects i (may_stand_for factor schema.params objects)
    (cost_of factor.problem.metric factor.problem.values schema.params objects schema.increases) h

of_factor : (s : State) (step : PlanStep) (i : Instance) (o : Option Factor)
    → option_and_then (λ (c : Contribution). c.instance_at step.action step.args) (option_map (λ (f : Factor). factor_contribution step.agent f) o) ≡ Some i
    → is_none (first_false s (option_map_or (λ (f : Factor). asked_at step.agent f step.action step.args) o [])) ≡ applies i s
of_factor s step i None h = absurd (none-some i h)
of_factor s step i (Some f) h = of_schema s step.agent f step.args i (action_of f step.action) h

-- it may be applied exactly where nothing that it asks for fails
pub may_apply : (factors : List Factor) (s : State) (step : PlanStep) (i : Instance) → instance_of (team_of factors) step ≡ Some i
    → is_none (first_false s (written factors step)) ≡ applies i s
may_apply factors s step i is =
    of_factor s step i (factor_of factors step.agent)
    (sym (ap (option_and_then (λ (c : Contribution). c.instance_at step.action step.args)) (part_of step.agent factors)) ∙ is)

-- ---- goals

none_in_or : (o p : Option SignedFact) → is_none (option_or o p) ≡ (is_none o && is_none p)
none_in_or None p = refl
none_in_or (Some x) p = refl

all_in_both : (test : NamedFact → Bool) (xs ys : List NamedFact) → list_all test (xs ++ ys) ≡ (list_all test xs && list_all test ys)
all_in_both test [] ys = refl
all_in_both test (x ∷ xs) ys = ap (λ b. test x && b) (all_in_both test xs ys) ∙ asked_first (test x) (list_all test xs) (list_all test ys)

goals_hold_from : (s : State) (agent : ℕ) (factors : List Factor)
    → is_none (first_false s (goals_from agent factors))
    ≡ (all_true s (joint_goal (contributions_from agent factors)) && none_true s (joint_never (contributions_from agent factors)))
goals_hold_from s agent [] = refl
goals_hold_from s agent (f ∷ fs) =
    let mine = signed_facts agent f [] [] f.problem.goals in
    let asked = asked_facts agent f [] [] f.problem.goals in
    let negated = negated_facts agent f [] [] f.problem.goals in
    let others = contributions_from (agent + 1) fs in
    ap is_none (find-append (λ (x : SignedFact). not (holds s x)) mine (goals_from (agent + 1) fs))
    ∙ none_in_or (first_false s mine) (first_false s (goals_from (agent + 1) fs))
    ∙ (λ i. all_hold s agent f [] [] f.problem.goals i && goals_hold_from s (agent + 1) fs i)
    ∙ both_parts (all_true s asked) (none_true s negated) (all_true s (joint_goal others)) (none_true s (joint_never others))
    ∙ (λ i. sym (all_in_both s asked (joint_goal others)) i && sym (all_in_both (λ g. not (s g)) negated (joint_never others)) i)

pub goals_hold : (s : State) (factors : List Factor) → is_none (first_false s (goals_from 1 factors)) ≡ is_goal (team_of factors) s
goals_hold s factors = goals_hold_from s 1 factors
