-- The verdict on the rest of a plan, by what is found of its first step.
use Rattle.std.proofs.Common.{◌≡◌, ℕ, Bool, true, false, if◌then◌else◌, ◌+◌, ◌<◌, ◌≤◌, ◌||◌, List, [], ◌∷◌, ◌++◌, length, get_or, drop, Option, Some, None, refl, sym, ap, subst, ◌∙◌}
use Rattle.std.specs.List.{list_any, flat_map}
use Rattle.std.specs.Option.{option_map, option_map_or}
use Rattle.std.specs.Prelude.{MatchOption, option_and_then}
use Rattle.std.proofs.Math.ListN.{drop_of_length-le}
use Rattle.std.proofs.lemmas.List.{drop_more}
use Rattle.mp_forms.specs.declared.factor.Factor.{Factor}
use Rattle.mp_joint.specs.declared.fact.NamedFact.{NamedFact}
use Rattle.mp_joint.specs.declared.fact.SignedFact.{SignedFact}
use Rattle.mp_joint.specs.declared.plan.PlanStep.{PlanStep}
use Rattle.mp_joint.specs.Fact.{Text, is_among}
use Rattle.mp_joint.specs.FactorContribution.{factor_contribution, contributions_from, team_of}
use Rattle.mp_joint.specs.Instance.{Instance, State, after}
use Rattle.mp_joint.specs.Plan.{Contribution, joint_start}
use Rattle.mp_plan_verdict.specs.declared.verdict.CheckVerdict.{CheckVerdict}
use Rattle.mp_plan_verdict.specs.declared.verdict.CheckVerdict.TheVariants as verdicts
use Rattle.mp_plan_verdict.specs.Written.{factor_of, asked_at, written, goals_from}
use Rattle.mp_plan_verdict.specs.Verdict.{first_failing, failing_step, failing_goal, verdict_from}
use Rattle.mp_checker.specs.declared.fact.FactNumbers.{FactNumbers}
use Rattle.mp_checker.specs.declared.taken.Taken.{Taken}
use Rattle.mp_checker.specs.declared.taken.Taken.TheVariants.{NoAction, Fails, Done}
use Rattle.mp_checker.specs.AgentView.{AgentView, views_from, at_agent, names_of, agent_of, factor_of as factor_in}
use Rattle.mp_checker.specs.At.{named_state}
use Rattle.mp_checker.specs.Checked.{IfValid}
use Rattle.mp_checker.specs.Taken.{IsTaken, failing}
use Rattle.mp_checker.specs.Team.{IsStep, starts, goals_of}
use Rattle.mp_checker.proofs.TeamLemmas.{view_of, part_of}

-- ---- the first step

abbrev rest : List Factor → State → ℕ → ℕ → List PlanStep → Instance → CheckVerdict
rest factors s time paid steps i = verdict_from factors (after i s) (time + 1) (paid + i.cost) steps

-- with the factor of its agent
abbrev at_step : List Factor → State → ℕ → ℕ → PlanStep → List PlanStep → Option Factor → CheckVerdict
at_step factors s time paid step steps o =
    option_map_or (λ i. first_failing s (option_map_or (λ (f : Factor). asked_at step.agent f step.action step.args) o []) (failing_step time) (rest factors s time paid steps i))
    (option_and_then (λ (c : Contribution). c.instance_at step.action step.args) (option_map (λ (f : Factor). factor_contribution step.agent f) o))
    (verdicts.NoAction time)

at_factor : (factors : List Factor) (s : State) (time paid : ℕ) (step : PlanStep) (steps : List PlanStep)
    → verdict_from factors s time paid (step ∷ steps) ≡ at_step factors s time paid step steps (factor_of factors step.agent)
at_factor factors s time paid step steps =
    ap (λ (o : Option Contribution). option_map_or (λ i. first_failing s (written factors step) (failing_step time) (rest factors s time paid steps i))
    (option_and_then (λ (c : Contribution). c.instance_at step.action step.args) o) (verdicts.NoAction time))
    (part_of step.agent factors)

abbrev IsStepOf : List Text → Option Factor → List FactNumbers → List FactNumbers → PlanStep → Taken → Type 0
IsStepOf names o old new step taken =
    MatchOption (option_map (λ (f : Factor). (names, step.agent, f)) o) (taken ≡ NoAction)
    (λ (v : AgentView). IsTaken (agent_of v) (factor_in v) (named_state (names_of v) old) (named_state (names_of v) new) step taken)

of_factor : (names : List Text) (factors : List Factor) (team : List AgentView) (old new : List FactNumbers) (step : PlanStep) (taken : Taken)
    → team ≡ views_from names 1 factors → IsStep team old new step taken → IsStepOf names (factor_of factors step.agent) old new step taken
of_factor names factors team old new step taken is h =
    subst (λ (o : Option AgentView). MatchOption o (taken ≡ NoAction)
    (λ (v : AgentView). IsTaken (agent_of v) (factor_in v) (named_state (names_of v) old) (named_state (names_of v) new) step taken))
    (ap (λ (t : List AgentView). at_agent t step.agent) is ∙ view_of names step.agent factors) h

no_action_of : (factors : List Factor) (time paid : ℕ) (step : PlanStep) (steps : List PlanStep) (names : List Text) (old new : List FactNumbers) (o : Option Factor)
    → IsStepOf names o old new step NoAction → at_step factors (named_state names old) time paid step steps o ≡ verdicts.NoAction time
no_action_of factors time paid step steps names old new None h = refl
no_action_of factors time paid step steps names old new (Some f) h =
    ap (λ (i : Option Instance). option_map_or (λ i. first_failing (named_state names old) (asked_at step.agent f step.action step.args) (failing_step time)
    (rest factors (named_state names old) time paid steps i)) i (verdicts.NoAction time)) h

fails_of : (factors : List Factor) (time paid : ℕ) (step : PlanStep) (steps : List PlanStep) (names : List Text) (old new : List FactNumbers) (x : SignedFact) (o : Option Factor)
    → IsStepOf names o old new step (Fails x) → at_step factors (named_state names old) time paid step steps o ≡ failing_step time x
fails_of factors time paid step steps names old new x None h = absurd (cc)
fails_of factors time paid step steps names old new x (Some f) h =
    ap (λ (i : Option Instance). option_map_or (λ i. first_failing (named_state names old) (asked_at step.agent f step.action step.args) (failing_step time)
    (rest factors (named_state names old) time paid steps i)) i (verdicts.NoAction time)) h.is
    ∙ ap (λ (y : Option SignedFact). option_map_or (failing_step time) y (rest factors (named_state names old) time paid steps h.instance)) h.first

done_of : (factors : List Factor) (time paid cost : ℕ) (step : PlanStep) (steps : List PlanStep) (names : List Text) (old new : List FactNumbers) (o : Option Factor)
    → IsStepOf names o old new step (Done cost)
    → at_step factors (named_state names old) time paid step steps o ≡ verdict_from factors (named_state names new) (time + 1) (paid + cost) steps
done_of factors time paid cost step steps names old new None h = absurd (cc)
done_of factors time paid cost step steps names old new (Some f) h =
    ap (λ (i : Option Instance). option_map_or (λ i. first_failing (named_state names old) (asked_at step.agent f step.action step.args) (failing_step time)
    (rest factors (named_state names old) time paid steps i)) i (verdicts.NoAction time)) h.is
    ∙ ap (λ (y : Option SignedFact). option_map_or (failing_step time) y (rest factors (named_state names old) time paid steps h.instance)) h.none
    ∙ (λ i. verdict_from factors (sym h.after i) (time + 1) (paid + h.costs i) steps)

-- ---- in a loop over a plan

step_at : (plan : List PlanStep) (i : ℕ) (x : PlanStep) → i < length plan → x ≡ get_or plan i x → drop i plan ≡ x ∷ drop (i + 1) plan
step_at plan i x lt is = drop_more plan i x lt ∙ ap (λ (y : PlanStep). y ∷ drop (i + 1) plan) (sym is)

pub stopped_no_action : (names : List Text) (factors : List Factor) (team : List AgentView) (old new : List FactNumbers) (plan : List PlanStep) (i paid : ℕ) (x : PlanStep)
    → team ≡ views_from names 1 factors → i < length plan → x ≡ get_or plan i x → IsStep team old new x NoAction
    → verdict_from factors (named_state names old) (i + 1) paid (drop i plan) ≡ verdicts.NoAction (i + 1)
stopped_no_action names factors team old new plan i paid x is lt at h =
    ap (verdict_from factors (named_state names old) (i + 1) paid) (step_at plan i x lt at)
    ∙ at_factor factors (named_state names old) (i + 1) paid x (drop (i + 1) plan)
    ∙ no_action_of factors (i + 1) paid x (drop (i + 1) plan) names old new (factor_of factors x.agent) (of_factor names factors team old new x NoAction is h)

pub stopped_failing : (names : List Text) (factors : List Factor) (team : List AgentView) (old new : List FactNumbers) (plan : List PlanStep) (i paid : ℕ) (x : PlanStep) (first : SignedFact)
    → team ≡ views_from names 1 factors → i < length plan → x ≡ get_or plan i x → IsStep team old new x (Fails first)
    → verdict_from factors (named_state names old) (i + 1) paid (drop i plan) ≡ failing_step (i + 1) first
stopped_failing names factors team old new plan i paid x first is lt at h =
    ap (verdict_from factors (named_state names old) (i + 1) paid) (step_at plan i x lt at)
    ∙ at_factor factors (named_state names old) (i + 1) paid x (drop (i + 1) plan)
    ∙ fails_of factors (i + 1) paid x (drop (i + 1) plan) names old new first (factor_of factors x.agent) (of_factor names factors team old new x (Fails first) is h)

pub goes_on : (names : List Text) (factors : List Factor) (team : List AgentView) (old new : List FactNumbers) (plan : List PlanStep) (i paid cost : ℕ) (x : PlanStep)
    → team ≡ views_from names 1 factors → i < length plan → x ≡ get_or plan i x → IsStep team old new x (Done cost)
    → verdict_from factors (named_state names old) (i + 1) paid (drop i plan)
    ≡ verdict_from factors (named_state names new) ((i + 1) + 1) (paid + cost) (drop (i + 1) plan)
goes_on names factors team old new plan i paid cost x is lt at h =
    ap (verdict_from factors (named_state names old) (i + 1) paid) (step_at plan i x lt at)
    ∙ at_factor factors (named_state names old) (i + 1) paid x (drop (i + 1) plan)
    ∙ done_of factors (i + 1) paid cost x (drop (i + 1) plan) names old new (factor_of factors x.agent) (of_factor names factors team old new x (Done cost) is h)

small_in : (old new : List FactNumbers) (step : PlanStep) (cost : ℕ) (o : Option AgentView)
    → MatchOption o (Done cost ≡ NoAction) (λ (v : AgentView). IsTaken (agent_of v) (factor_in v) (named_state (names_of v) old) (named_state (names_of v) new) step (Done cost))
    → cost ≤ 16000000
small_in old new step cost None h = absurd (cc)
small_in old new step cost (Some v) h = h.small

pub step_small : (team : List AgentView) (old new : List FactNumbers) (step : PlanStep) (cost : ℕ) → IsStep team old new step (Done cost) → cost ≤ 16000000
step_small team old new step cost h = small_in old new step cost (at_agent team step.agent) h

-- ---- start and end

goals_from_views : (names : List Text) (agent : ℕ) (factors : List Factor) → flat_map goals_of (views_from names agent factors) ≡ goals_from agent factors
goals_from_views names agent [] = refl
goals_from_views names agent (f ∷ fs) = ap (λ gs. goals_of (names, agent, f) ++ gs) (goals_from_views names (agent + 1) fs)

starts_from_views : (names : List Text) (agent : ℕ) (factors : List Factor) (f : NamedFact)
    → list_any (λ (v : AgentView). starts v f) (views_from names agent factors) ≡ list_any (λ (c : Contribution). is_among f c.init) (contributions_from agent factors)
starts_from_views names agent [] f = refl
starts_from_views names agent (x ∷ xs) f = ap (λ b. starts (names, agent, x) f || b) (starts_from_views names (agent + 1) xs f)

pub start_is : (names : List Text) (factors : List Factor) (team : List AgentView) (kept : List FactNumbers) → team ≡ views_from names 1 factors
    → ((f : NamedFact) → named_state names kept f ≡ list_any (λ (v : AgentView). starts v f) team) → named_state names kept ≡ joint_start (team_of factors)
start_is names factors team kept is h =
    let each : (f : NamedFact) → named_state names kept f ≡ joint_start (team_of factors) f =
    λ f. h f ∙ ap (λ (t : List AgentView). list_any (λ (v : AgentView). starts v f) t) is ∙ starts_from_views names 1 factors f in
    λ i f. each f i

pub end_is : (names : List Text) (factors : List Factor) (team : List AgentView) (kept : List FactNumbers) (plan : List PlanStep) (i time paid : ℕ) (first : Option SignedFact)
    → team ≡ views_from names 1 factors → length plan ≤ i → first ≡ failing (named_state names kept) (flat_map goals_of team)
    → verdict_from factors (named_state names kept) time paid (drop i plan) ≡ option_map_or failing_goal first (verdicts.Valid paid)
end_is names factors team kept plan i time paid first is past h =
    let s = named_state names kept in
    ap (verdict_from factors s time paid) (drop_of_length-le plan past)
    ∙ ap (λ (o : Option SignedFact). option_map_or failing_goal o (verdicts.Valid paid))
    (ap (failing s) (sym (ap (flat_map goals_of) is ∙ goals_from_views names 1 factors)) ∙ sym h)

-- ---- what is found of a plan that does not solve

pub unless_step : (time : ℕ) (x : SignedFact) (P : Type 0) → IfValid (failing_step time x) P
unless_step time x P = by x.positive refl
  where
    by : (b : Bool) → x.positive ≡ b → IfValid (failing_step time x) P
    by true e = subst (λ b. IfValid (if b then verdicts.Missing time x.fact else verdicts.Forbidden time x.fact) P) (sym e) tt
    by false e = subst (λ b. IfValid (if b then verdicts.Missing time x.fact else verdicts.Forbidden time x.fact) P) (sym e) tt

pub unless_goal : (x : SignedFact) (P : Type 0) → IfValid (failing_goal x) P
unless_goal x P = by x.positive refl
  where
    by : (b : Bool) → x.positive ≡ b → IfValid (failing_goal x) P
    by true e = subst (λ b. IfValid (if b then verdicts.GoalMissing x.fact else verdicts.GoalForbidden x.fact) P) (sym e) tt
    by false e = subst (λ b. IfValid (if b then verdicts.GoalMissing x.fact else verdicts.GoalForbidden x.fact) P) (sym e) tt

pub if_valid : (P Q : Type 0) (v : CheckVerdict) → (P → Q) → IfValid v P → IfValid v Q
if_valid P Q (verdicts.Valid cost) f h = f h
if_valid P Q (verdicts.NoAction time) f h = tt
if_valid P Q (verdicts.Missing time x) f h = tt
if_valid P Q (verdicts.Forbidden time x) f h = tt
if_valid P Q (verdicts.GoalMissing x) f h = tt
if_valid P Q (verdicts.GoalForbidden x) f h = tt
