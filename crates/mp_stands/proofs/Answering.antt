-- A step by its number is answered by the step for which the number stands, and a step by names by its number.
use Rattle.std.proofs.Common.{◌≡◌, ◌≢◌, ℕ, List, [], ◌∷◌, true, refl, ap, sym, ◌∙◌, subst, Some}
use Rattle.std.proofs.lemmas.Option.{same_Some, cond_some, option_and_then_some}
use Rattle.std.specs.Prelude.{Contains, AllPairs, slice_get}
use Rattle.mp_runs.specs.Simulation.{HasAnswer}
use Rattle.mp_runs.proofs.Costs.{plan_cost-one}
use Rattle.mp_runs.proofs.Runs.{run-one}
use Rattle.mp_forms.specs.declared.factor.Factor.{Factor}
use Rattle.mp_joint.specs.declared.plan.PlanStep.{PlanStep}
use Rattle.mp_joint.specs.FactorContribution.{team_of}
use Rattle.mp_joint.specs.Instance as named
use Rattle.mp_joint.specs.Instance.{Instance, State}
use Rattle.mp_joint.specs.Plan as joint
use Rattle.mp_joint.specs.Plan.{instance_of, united}
use Rattle.mp_task.specs.declared.act.Act.{Act}
use Rattle.mp_task.specs.AgentTask.{AgentTask}
use Rattle.mp_task.specs.Plan as task
use Rattle.mp_task.specs.Plan.{JointState, TaskStep, act_of, applies, after_act, after_if_applies, private_of, team_system}
use Rattle.mp_task.proofs.Agreeing.{number_at, step_parts}
use Rattle.mp_stands.specs.Numbering.{Numbering, steps_of}
use Rattle.mp_stands.specs.Plans.{IsNamed}
use Rattle.mp_stands.specs.Stands.{Stands}
use Rattle.mp_stands.specs.Touched.{IsGrounded}
use Rattle.mp_stands.proofs.MemberLists.{has_place}
use Rattle.mp_stands.proofs.Contributed.{instance_from}
use Rattle.mp_stands.proofs.States.{Matches, static_suits}
use Rattle.mp_stands.proofs.Actions.{both_apply, matches_after}
use Rattle.mp_stands.proofs.MatchingStarts.{task_at}
use Rattle.mp_stands.proofs.NamedSteps.{leads, named_cost, acts, numbered_cost, same_places, act_at, HasInstance, has_instance}

-- the step for which a number stands
pub record IsNameOf (numbering : Numbering) (number : TaskStep) (steps : List PlanStep) : Type 0 where
  pub step : PlanStep
  pub named : IsNamed numbering number step
  pub is : steps ≡ step ∷ []

-- the number of a step, which is one of its agent, whose steps are different ones
pub record IsNumberOf (numbering : Numbering) (step : PlanStep) (numbers : List TaskStep) : Type 0 where
  pub number : TaskStep
  pub named : IsNamed numbering number step
  pub agent : number.agent ≡ step.agent
  pub once : AllPairs (λ a b. a ≢ b) (steps_of numbering step.agent)
  pub is : numbers ≡ number ∷ []

module _ (team : List Factor) (numbering : Numbering) (tasks : List AgentTask) (stands : Stands team numbering tasks) where
  name_answers : (state : JointState) (s : State) (number : TaskStep) (t : AgentTask) (act : Act) (step : PlanStep) → Matches team numbering tasks state s
      → number.agent ≡ t.me → act_of tasks number ≡ Some act → IsNamed numbering number step → HasInstance team numbering tasks t act step
      → applies act state.publics (private_of state number.agent) ≡ true
      → HasAnswer (united (team_of team)) (λ u v. Matches team numbering tasks v u) (IsNameOf numbering number) (λ c d. c ≡ d) s
      (after_act state number.agent act) (task.step_cost tasks number)
  name_answers state s number t act step m me is is_named found went =
      let i = found.instance in
      let may : named.applies i s ≡ true =
      sym (both_apply team numbering tasks stands t act step found.factor i found.own state s m)
      ∙ subst (λ n. applies act state.publics (private_of state n) ≡ true) me went in (
        step ∷ [],
        record {
          stand = record { step = step; named = is_named; is = refl };
          end = named.after i s;
          runs = run-one (joint.step_after (team_of team)) s step ∙ leads team step i s found.own.grounded.instance_is may;
          represents =
              subst (λ n. Matches team numbering tasks (after_act state n act) (named.after i s)) (sym me)
              (matches_after team numbering tasks stands t act step found.factor i found.own state s m);
          fits =
              plan_cost-one (united (team_of team)) step ∙ named_cost team step i found.own.grounded.instance_is
              ∙ sym (numbered_cost tasks number act is ∙ found.own.action.cost);
        },
      )

  pub by_name : (s : State) (state reached : JointState) (number : TaskStep) → Matches team numbering tasks state s → task.after_step tasks state number ≡ Some reached
      → HasAnswer (united (team_of team)) (λ u v. Matches team numbering tasks v u) (IsNameOf numbering number) (λ c d. c ≡ d) s reached (task.step_cost tasks number)
  by_name s state reached number m ran =
      option_and_then_some (after_if_applies state number.agent) (act_of tasks number) reached ran (λ act is taken.
      let went = cond_some (applies act state.publics (private_of state number.agent)) (after_act state number.agent act) reached taken in
      let parts = step_parts tasks number act is in
      let t = parts.task in
      let there : Contains tasks t = (parts.place, parts.within, parts.is) in
      let me : number.agent ≡ t.me = parts.agent ∙ sym (number_at tasks stands.agree.numbered parts.place t parts.within parts.is) in
      let place = same_places (steps_of numbering t.me) t.acts number.action act (stands.tasks_stand t there).acts.one_each parts.own in
      let is_named : IsNamed numbering number place.0 = subst (λ n. slice_get (steps_of numbering n) number.action ≡ Some place.0) (sym me) place.1 in
      let found = has_instance team numbering tasks stands t there number.action act place.0 parts.own place.1 in
      subst (λ v. HasAnswer (united (team_of team)) (λ u w. Matches team numbering tasks w u) (IsNameOf numbering number) (λ c d. c ≡ d) s v (task.step_cost tasks number)) went.1
      (name_answers state s number t act place.0 m me is is_named found went.0))

  number_answers : (state : JointState) (s : State) (step : PlanStep) (i : Instance) (t : AgentTask) (n : ℕ) (act : Act) → Matches team numbering tasks state s
      → Contains tasks t → act_of tasks (record { agent = t.me; action = n }) ≡ Some act → slice_get (steps_of numbering t.me) n ≡ Some step
      → HasInstance team numbering tasks t act step → instance_of (team_of team) step ≡ Some i → named.applies i s ≡ true
      → HasAnswer (team_system tasks) (Matches team numbering tasks) (IsNumberOf numbering step) (λ c d. c ≡ d) state (named.after i s) (joint.step_cost (team_of team) step)
  number_answers state s step i t n act m there is is_named found instance may =
      let j = found.instance in
      let number : TaskStep = record { agent = t.me; action = n } in
      let same : j ≡ i = same_Some j i (sym found.own.grounded.instance_is ∙ instance) in
      let may_act : applies act state.publics (private_of state t.me) ≡ true =
      both_apply team numbering tasks stands t act step found.factor j found.own state s m ∙ ap (λ (k : Instance). named.applies k s) same ∙ may in (
        number ∷ [],
        record {
          stand = record {
            number = number;
            named = is_named;
            agent = sym found.own.agent;
            once = subst (λ a. AllPairs (λ x y. x ≢ y) (steps_of numbering a)) (sym found.own.agent) (stands.tasks_stand t there).acts.once;
            is = refl;
          };
          end = after_act state t.me act;
          runs = run-one (task.after_step tasks) state number ∙ acts tasks state number act is may_act;
          represents =
              subst (λ (k : Instance). Matches team numbering tasks (after_act state t.me act) (named.after k s)) same
              (matches_after team numbering tasks stands t act step found.factor j found.own state s m);
          fits =
              plan_cost-one (team_system tasks) number ∙ numbered_cost tasks number act is ∙ found.own.action.cost
              ∙ sym (named_cost team step j found.own.grounded.instance_is);
        },
      )

  pub by_number : (state : JointState) (s reached : State) (step : PlanStep) → Matches team numbering tasks state s → joint.step_after (team_of team) s step ≡ Some reached
      → HasAnswer (team_system tasks) (Matches team numbering tasks) (IsNumberOf numbering step) (λ c d. c ≡ d) state reached (joint.step_cost (team_of team) step)
  by_number state s reached step m ran =
      option_and_then_some (named.successor s) (instance_of (team_of team) step) reached ran (λ i is taken.
      let went = cond_some (named.applies i s) (named.after i s) reached taken in
      let from = instance_from team step i is in
      let grounded : IsGrounded team step from.factor i = record {
        factor_is = from.at;
        instance_is = is;
        suits = static_suits team step.agent from.factor i s from.at from.sound m.statics went.0;
      } in
      let its = task_at team tasks step.agent from.factor stands.agree.numbered stands.one_each from.at in
      let t = its.task in
      let place = has_place (steps_of numbering t.me) step ((stands.tasks_stand t its.there).acts.all step from.factor i (sym its.me) grounded) in
      let act = same_places t.acts (steps_of numbering t.me) place.0 step (sym (stands.tasks_stand t its.there).acts.one_each) place.1 in
      let found = has_instance team numbering tasks stands t its.there place.0 act.0 step act.1 place.1 in
      let own = act_at tasks t place.0 act.0 its.is act.1 in
      subst (λ v. HasAnswer (team_system tasks) (Matches team numbering tasks) (IsNumberOf numbering step) (λ c d. c ≡ d) state v (joint.step_cost (team_of team) step)) went.1
      (number_answers state s step i t place.0 act.0 m its.there own place.1 found is went.0))
