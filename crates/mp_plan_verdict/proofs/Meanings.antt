-- What the verdict on the rest of a plan says.
use Rattle.std.proofs.Common.{◌≡◌, ℕ, ◌+◌, Bool, true, false, List, [], ◌∷◌, ◌++◌, length, Option, Some, None, if◌then◌else◌, refl, sym, ap, subst, ◌∙◌, arith, inl, inr}
use Rattle.std.specs.Option.{option_map_or, is_none}
use Rattle.std.specs.Prelude.{option_and_then, IsTrue, IsSomeAnd}
use Rattle.std.proofs.lemmas.Bool.{cases_Bool, true≢false}
use Rattle.mp_forms.specs.declared.factor.Factor.{Factor}
use Rattle.mp_joint.specs.declared.fact.SignedFact.{SignedFact}
use Rattle.mp_joint.specs.declared.plan.PlanStep.{PlanStep}
use Rattle.mp_joint.specs.Fact.{plain, complement}
use Rattle.mp_joint.specs.FactorContribution.{team_of}
use Rattle.mp_joint.specs.Instance.{Instance, State, applies, after, successor}
use Rattle.mp_joint.specs.Plan.{Contribution, instance_of, step_after, step_cost, joint_start, is_goal, united, Solves, cost}
use Rattle.mp_runs.specs.Run.{run}
use Rattle.mp_runs.specs.System.{state_after, IsPlanFrom, plan_cost}
use Rattle.mp_runs.proofs.Costs.{plan_cost-cons}
use Rattle.mp_plan_verdict.specs.declared.verdict.CheckVerdict.{CheckVerdict}
use Rattle.mp_plan_verdict.specs.declared.verdict.CheckVerdict.TheVariants.{Valid, NoAction, Missing, Forbidden, GoalMissing, GoalForbidden}
use Rattle.mp_plan_verdict.specs.Means.{Means, ComesTo, first_false}
use Rattle.mp_plan_verdict.specs.Verdict.{first_failing, failing_step, failing_goal, verdict_from, verdict}
use Rattle.mp_plan_verdict.specs.Written.{written, written_goals}
use Rattle.mp_plan_verdict.proofs.Conditions.{may_apply, goals_hold}

-- ---- from a state on, where the first step has a time and the steps before cost something

record ComesFrom (team : List Contribution) (s : State) (first : ℕ) (plan : List PlanStep) (time : ℕ) : Type 0 where
  before : List PlanStep
  step : PlanStep
  behind : List PlanStep
  state : State
  parts : plan ≡ before ++ step ∷ behind
  place : time ≡ first + length before
  reached : state_after (united team) s before ≡ Some state

record IsNoActionFrom (factors : List Factor) (s : State) (first : ℕ) (plan : List PlanStep) (time : ℕ) : Type 0 where
  comes : ComesFrom (team_of factors) s first plan time
  none : instance_of (team_of factors) comes.step ≡ None

record FailsFrom (factors : List Factor) (s : State) (first : ℕ) (plan : List PlanStep) (time : ℕ) (x : SignedFact) : Type 0 where
  comes : ComesFrom (team_of factors) s first plan time
  instance : Instance
  is : instance_of (team_of factors) comes.step ≡ Some instance
  which : first_false comes.state (written factors comes.step) ≡ Some x

record EndFails (factors : List Factor) (s : State) (plan : List PlanStep) (x : SignedFact) : Type 0 where
  state : State
  reached : state_after (united (team_of factors)) s plan ≡ Some state
  which : first_false state (written_goals factors) ≡ Some x

abbrev MeansFrom : List Factor → State → ℕ → ℕ → List PlanStep → CheckVerdict → Type 0
MeansFrom factors s first paid plan (Valid c) = IsPlanFrom (united (team_of factors)) s plan × (paid + plan_cost (united (team_of factors)) plan ≡ c)
MeansFrom factors s first paid plan (NoAction time) = IsNoActionFrom factors s first plan time
MeansFrom factors s first paid plan (Missing time f) = FailsFrom factors s first plan time (plain f)
MeansFrom factors s first paid plan (Forbidden time f) = FailsFrom factors s first plan time (complement f)
MeansFrom factors s first paid plan (GoalMissing f) = EndFails factors s plan (plain f)
MeansFrom factors s first paid plan (GoalForbidden f) = EndFails factors s plan (complement f)

-- ---- a step more in front

-- the state after a step that may be applied
abbrev Goes : List Factor → State → PlanStep → State → Type 0
Goes factors s step t = step_after (team_of factors) s step ≡ Some t

reached_by : (factors : List Factor) (s t u : State) (step : PlanStep) (plan : List PlanStep) → Goes factors s step t
    → state_after (united (team_of factors)) t plan ≡ Some u → state_after (united (team_of factors)) s (step ∷ plan) ≡ Some u
unfolding run
reached_by factors s t u step plan goes h =
    ap (option_and_then (λ (v : State). run (step_after (team_of factors)) v plan)) goes ∙ h

abbrev comes_later : (factors : List Factor) (s t : State) (first : ℕ) (step : PlanStep) (plan : List PlanStep) (time : ℕ) → Goes factors s step t
    → ComesFrom (team_of factors) t (first + 1) plan time → ComesFrom (team_of factors) s first (step ∷ plan) time
comes_later factors s t first step plan time goes c = record {
  before = step ∷ c.before;
  step = c.step;
  behind = c.behind;
  state = c.state;
  parts = ap (λ (xs : List PlanStep). step ∷ xs) c.parts;
  place = let p = c.place in omega (arith, p);
  reached = reached_by factors s t c.state step c.before goes c.reached;
}

solves_by : (factors : List Factor) (s t : State) (step : PlanStep) (plan : List PlanStep) → Goes factors s step t
    → IsPlanFrom (united (team_of factors)) t plan → IsPlanFrom (united (team_of factors)) s (step ∷ plan)
unfolding run
solves_by factors s t step plan goes h =
    subst (λ (o : Option State). IsSomeAnd (option_and_then (λ (v : State). run (step_after (team_of factors)) v plan) o) (λ last. IsTrue (is_goal (team_of factors) last)))
    (sym goes) h

later : (factors : List Factor) (s t : State) (first paid more : ℕ) (step : PlanStep) (plan : List PlanStep) (v : CheckVerdict) → Goes factors s step t
    → step_cost (team_of factors) step ≡ more → MeansFrom factors t (first + 1) (paid + more) plan v → MeansFrom factors s first paid (step ∷ plan) v
later factors s t first paid more step plan (Valid c) goes costs h =
    let rest = h.1 in
    let cons = plan_cost-cons (united (team_of factors)) step plan in
    (solves_by factors s t step plan goes h.0, omega (arith, rest, cons, costs))
later factors s t first paid more step plan (NoAction time) goes costs h =
    record { comes = comes_later factors s t first step plan time goes h.comes; none = h.none }
later factors s t first paid more step plan (Missing time f) goes costs h =
    record { comes = comes_later factors s t first step plan time goes h.comes; instance = h.instance; is = h.is; which = h.which }
later factors s t first paid more step plan (Forbidden time f) goes costs h =
    record { comes = comes_later factors s t first step plan time goes h.comes; instance = h.instance; is = h.is; which = h.which }
later factors s t first paid more step plan (GoalMissing f) goes costs h =
    record { state = h.state; reached = reached_by factors s t h.state step plan goes h.reached; which = h.which }
later factors s t first paid more step plan (GoalForbidden f) goes costs h =
    record { state = h.state; reached = reached_by factors s t h.state step plan goes h.reached; which = h.which }

-- ---- what fails

no_steps : (s : State) (team : List Contribution) → state_after (united team) s [] ≡ Some s
unfolding run
no_steps s team = refl

abbrev here : (factors : List Factor) (s : State) (first : ℕ) (step : PlanStep) (plan : List PlanStep) → ComesFrom (team_of factors) s first (step ∷ plan) first
here factors s first step plan = record {
  before = [];
  step = step;
  behind = plan;
  state = s;
  parts = refl;
  place = omega arith;
  reached = no_steps s (team_of factors);
}

as_signed : (x : SignedFact) (b : Bool) → x.positive ≡ b → x ≡ record { positive = b; fact = x.fact }
as_signed x b e = λ i. record { positive = e i; fact = x.fact }

step_fails : (factors : List Factor) (s : State) (first paid : ℕ) (step : PlanStep) (plan : List PlanStep) (i : Instance) (x : SignedFact)
    → instance_of (team_of factors) step ≡ Some i → first_false s (written factors step) ≡ Some x
    → MeansFrom factors s first paid (step ∷ plan) (failing_step first x)
step_fails factors s first paid step plan i x is which =
    elim (cases_Bool x.positive) [
      | inl positive ↦
          subst (λ b. MeansFrom factors s first paid (step ∷ plan) (if b then Missing first x.fact else Forbidden first x.fact)) (sym positive)
          (record { comes = here factors s first step plan; instance = i; is = is; which = which ∙ ap Some (as_signed x true positive) })
      | inr negative ↦
          subst (λ b. MeansFrom factors s first paid (step ∷ plan) (if b then Missing first x.fact else Forbidden first x.fact)) (sym negative)
          (record { comes = here factors s first step plan; instance = i; is = is; which = which ∙ ap Some (as_signed x false negative) })
    ]

goal_fails : (factors : List Factor) (s : State) (first paid : ℕ) (x : SignedFact) → first_false s (written_goals factors) ≡ Some x
    → MeansFrom factors s first paid [] (failing_goal x)
goal_fails factors s first paid x which =
    elim (cases_Bool x.positive) [
      | inl positive ↦
          subst (λ b. MeansFrom factors s first paid [] (if b then GoalMissing x.fact else GoalForbidden x.fact)) (sym positive)
          (record { state = s; reached = no_steps s (team_of factors); which = which ∙ ap Some (as_signed x true positive) })
      | inr negative ↦
          subst (λ b. MeansFrom factors s first paid [] (if b then GoalMissing x.fact else GoalForbidden x.fact)) (sym negative)
          (record { state = s; reached = no_steps s (team_of factors); which = which ∙ ap Some (as_signed x false negative) })
    ]

-- ---- the end of a plan

solves_nothing : (factors : List Factor) (s : State) → is_goal (team_of factors) s ≡ true → IsPlanFrom (united (team_of factors)) s []
unfolding run
solves_nothing factors s h = h

at_end : (factors : List Factor) (s : State) (first paid : ℕ) (o : Option SignedFact) → first_false s (written_goals factors) ≡ o
    → MeansFrom factors s first paid [] (option_map_or failing_goal o (Valid paid))
at_end factors s first paid None h =
    (solves_nothing factors s (sym (goals_hold s factors) ∙ ap is_none h), omega arith)
at_end factors s first paid (Some x) h = goal_fails factors s first paid x h

-- ---- a step

goes_by : (factors : List Factor) (s : State) (step : PlanStep) (i : Instance) → instance_of (team_of factors) step ≡ Some i → applies i s ≡ true
    → Goes factors s step (after i s)
goes_by factors s step i is may =
    ap (option_and_then (successor s)) is ∙ ap (λ b. if b then Some (after i s) else None) may

by_first : (factors : List Factor) (s : State) (first paid : ℕ) (step : PlanStep) (plan : List PlanStep) (i : Instance) (o : Option SignedFact)
    → instance_of (team_of factors) step ≡ Some i → first_false s (written factors step) ≡ o
    → ((t : State) → MeansFrom factors t (first + 1) (paid + i.cost) plan (verdict_from factors t (first + 1) (paid + i.cost) plan))
    → MeansFrom factors s first paid (step ∷ plan) (option_map_or (failing_step first) o (verdict_from factors (after i s) (first + 1) (paid + i.cost) plan))
by_first factors s first paid step plan i None is h rest =
    let may : applies i s ≡ true = sym (may_apply factors s step i is) ∙ ap is_none h in
    later factors s (after i s) first paid i.cost step plan (verdict_from factors (after i s) (first + 1) (paid + i.cost) plan)
    (goes_by factors s step i is may)
    (ap (λ (p : Option Instance). option_map_or (λ (j : Instance). j.cost) p 0) is) (rest (after i s))
by_first factors s first paid step plan i (Some x) is h rest = step_fails factors s first paid step plan i x is h

by_instance : (factors : List Factor) (s : State) (first paid : ℕ) (step : PlanStep) (plan : List PlanStep) (o : Option Instance)
    → instance_of (team_of factors) step ≡ o
    → ((t : State) (more : ℕ) → MeansFrom factors t (first + 1) (paid + more) plan (verdict_from factors t (first + 1) (paid + more) plan))
    → MeansFrom factors s first paid (step ∷ plan)
    (option_map_or (λ i. first_failing s (written factors step) (failing_step first) (verdict_from factors (after i s) (first + 1) (paid + i.cost) plan)) o (NoAction first))
by_instance factors s first paid step plan None is rest = record { comes = here factors s first step plan; none = is }
by_instance factors s first paid step plan (Some i) is rest =
    by_first factors s first paid step plan i (first_false s (written factors step)) is refl (λ t. rest t i.cost)

means_from : (factors : List Factor) (plan : List PlanStep) (s : State) (first paid : ℕ) → MeansFrom factors s first paid plan (verdict_from factors s first paid plan)
means_from factors [] s first paid = at_end factors s first paid (first_false s (written_goals factors)) refl
means_from factors (step ∷ plan) s first paid =
    by_instance factors s first paid step plan (instance_of (team_of factors) step) refl
    (λ t more. means_from factors plan t (first + 1) (paid + more))

-- ---- from the start

abbrev comes_to : (team : List Contribution) (plan : List PlanStep) (time : ℕ) → ComesFrom team (joint_start team) 1 plan time → ComesTo team plan time
comes_to team plan time c = record {
  before = c.before;
  step = c.step;
  behind = c.behind;
  state = c.state;
  parts = c.parts;
  place = let p = c.place in omega (arith, p);
  reached = c.reached;
}

from_start : (factors : List Factor) (plan : List PlanStep) (v : CheckVerdict) → MeansFrom factors (joint_start (team_of factors)) 1 0 plan v → Means factors plan v
from_start factors plan (Valid c) h = let e = h.1 in (h.0, omega (arith, e))
from_start factors plan (NoAction time) h = record { comes = comes_to (team_of factors) plan time h.comes; none = h.none }
from_start factors plan (Missing time f) h =
    record { comes = comes_to (team_of factors) plan time h.comes; instance = h.instance; is = h.is; first = h.which }
from_start factors plan (Forbidden time f) h =
    record { comes = comes_to (team_of factors) plan time h.comes; instance = h.instance; is = h.is; first = h.which }
from_start factors plan (GoalMissing f) h = record { state = h.state; reached = h.reached; first = h.which }
from_start factors plan (GoalForbidden f) h = record { state = h.state; reached = h.reached; first = h.which }

pub means : (factors : List Factor) (plan : List PlanStep) → Means factors plan (verdict factors plan)
means factors plan = from_start factors plan (verdict factors plan) (means_from factors plan (joint_start (team_of factors)) 1 0)

-- ---- a plan that solves has no other verdict

abbrev is_valid : CheckVerdict → Bool
is_valid (Valid c) = true
is_valid (NoAction time) = false
is_valid (Missing time f) = false
is_valid (Forbidden time f) = false
is_valid (GoalMissing f) = false
is_valid (GoalForbidden f) = false

-- what a plan that solves from a state has
solves_step : (factors : List Factor) (s : State) (step : PlanStep) (plan : List PlanStep) (o : Option Instance) → instance_of (team_of factors) step ≡ o
    → IsPlanFrom (united (team_of factors)) s (step ∷ plan)
    → (i : Instance) × (o ≡ Some i) × (applies i s ≡ true) × IsPlanFrom (united (team_of factors)) (after i s) plan
unfolding run
solves_step factors s step plan None is h =
    absurd (subst (λ (o : Option Instance). IsSomeAnd (option_and_then (λ (v : State). run (step_after (team_of factors)) v plan) (option_and_then (successor s) o)) (λ last. IsTrue (is_goal (team_of factors) last))) is h)
solves_step factors s step plan (Some i) is h =
    let k = subst (λ (o : Option Instance). IsSomeAnd (option_and_then (λ (v : State). run (step_after (team_of factors)) v plan) (option_and_then (successor s) o)) (λ last. IsTrue (is_goal (team_of factors) last))) is h in
    elim (cases_Bool (applies i s)) [
      | inl may ↦ (i, refl, may, subst (λ b. IsSomeAnd (option_and_then (λ (v : State). run (step_after (team_of factors)) v plan) (if b then Some (after i s) else None)) (λ last. IsTrue (is_goal (team_of factors) last))) may k)
      | inr cannot ↦ absurd (subst (λ b. IsSomeAnd (option_and_then (λ (v : State). run (step_after (team_of factors)) v plan) (if b then Some (after i s) else None)) (λ last. IsTrue (is_goal (team_of factors) last))) cannot k)
    ]

no_first : (o : Option SignedFact) → is_none o ≡ true → o ≡ None
no_first None h = refl
no_first (Some x) h = absurd (true≢false (sym h))

goal_at_end : (factors : List Factor) (s : State) → IsPlanFrom (united (team_of factors)) s [] → is_goal (team_of factors) s ≡ true
unfolding run
goal_at_end factors s h = h

valid_from : (factors : List Factor) (plan : List PlanStep) (s : State) (first paid : ℕ) → IsPlanFrom (united (team_of factors)) s plan
    → is_valid (verdict_from factors s first paid plan) ≡ true
valid_from factors [] s first paid h =
    ap (λ (o : Option SignedFact). is_valid (option_map_or failing_goal o (Valid paid)))
    (no_first (first_false s (written_goals factors)) (goals_hold s factors ∙ goal_at_end factors s h))
valid_from factors (step ∷ plan) s first paid h =
    let (i, is, may, rest) = solves_step factors s step plan (instance_of (team_of factors) step) refl h in
    ap (λ (o : Option Instance). is_valid (option_map_or (λ j. first_failing s (written factors step) (failing_step first) (verdict_from factors (after j s) (first + 1) (paid + j.cost) plan)) o (NoAction first))) is
    ∙ ap (λ (o : Option SignedFact). is_valid (option_map_or (failing_step first) o (verdict_from factors (after i s) (first + 1) (paid + i.cost) plan)))
    (no_first (first_false s (written factors step)) (may_apply factors s step i is ∙ may))
    ∙ valid_from factors plan (after i s) (first + 1) (paid + i.cost) rest

valid_at : (factors : List Factor) (plan : List PlanStep) (v : CheckVerdict) (c : ℕ) → Means factors plan v → is_valid v ≡ true → cost (team_of factors) plan ≡ c → v ≡ Valid c
valid_at factors plan (Valid d) c m valid costs = ap Valid (sym m.1 ∙ costs)
valid_at factors plan (NoAction time) c m valid costs = absurd (true≢false (sym valid))
valid_at factors plan (Missing time f) c m valid costs = absurd (true≢false (sym valid))
valid_at factors plan (Forbidden time f) c m valid costs = absurd (true≢false (sym valid))
valid_at factors plan (GoalMissing f) c m valid costs = absurd (true≢false (sym valid))
valid_at factors plan (GoalForbidden f) c m valid costs = absurd (true≢false (sym valid))

pub valid_if : (factors : List Factor) (plan : List PlanStep) (c : ℕ) → verdict factors plan ≡ Valid c
    → Solves (team_of factors) plan × (cost (team_of factors) plan ≡ c)
valid_if factors plan c h = subst (Means factors plan) h (means factors plan)

pub valid_where : (factors : List Factor) (plan : List PlanStep) (c : ℕ) → Solves (team_of factors) plan × (cost (team_of factors) plan ≡ c)
    → verdict factors plan ≡ Valid c
valid_where factors plan c h =
    valid_at factors plan (verdict factors plan) c (means factors plan)
    (valid_from factors plan (joint_start (team_of factors)) 1 0 h.0) h.1
