-- What steps lead to and cost, by name and by number, and which own action and which instance they stand for.
use Rattle.std.proofs.Common.{◌≡◌, ℕ, List, true, length, inl, inr, ap, ◌∙◌, arith, Option, Some, None}
use Rattle.std.proofs.lemmas.Bool.{cond-true}
use Rattle.std.proofs.lemmas.Option.{slice_get_within, slice_get_cases}
use Rattle.std.specs.Option.{option_map_or, option_and_then}
use Rattle.std.specs.Prelude.{Contains, slice_get}
use Rattle.mp_forms.specs.declared.factor.Factor.{Factor}
use Rattle.mp_joint.specs.declared.plan.PlanStep.{PlanStep}
use Rattle.mp_joint.specs.FactorContribution.{team_of}
use Rattle.mp_joint.specs.Instance as named
use Rattle.mp_joint.specs.Instance.{Instance, State}
use Rattle.mp_joint.specs.Plan as joint
use Rattle.mp_joint.specs.Plan.{instance_of}
use Rattle.mp_task.specs.declared.act.Act.{Act}
use Rattle.mp_task.specs.AgentTask.{AgentTask}
use Rattle.mp_task.specs.Plan as task
use Rattle.mp_task.specs.Plan.{JointState, TaskStep, task_of, act_of, applies, after_act, after_if_applies, private_of}
use Rattle.mp_task.proofs.Agreeing.{Contains-slice_get}
use Rattle.mp_stands.specs.Numbering.{Numbering, steps_of}
use Rattle.mp_stands.specs.Stands.{Stands}
use Rattle.mp_stands.proofs.Actions.{IsOwnAction}

-- an instance that may be applied leads to the state after it, at its cost
pub leads : (team : List Factor) (step : PlanStep) (i : Instance) (s : State) → instance_of (team_of team) step ≡ Some i → named.applies i s ≡ true
    → joint.step_after (team_of team) s step ≡ Some (named.after i s)
leads team step i s is may =
    ap (option_and_then (named.successor s)) is ∙ cond-true (named.applies i s) (Some (named.after i s)) None may

pub named_cost : (team : List Factor) (step : PlanStep) (i : Instance) → instance_of (team_of team) step ≡ Some i → joint.step_cost (team_of team) step ≡ i.cost
named_cost team step i is = ap (λ (o : Option Instance). option_map_or (λ j. j.cost) o 0) is

-- and so does an own action
pub acts : (tasks : List AgentTask) (state : JointState) (number : TaskStep) (act : Act) → act_of tasks number ≡ Some act
    → applies act state.publics (private_of state number.agent) ≡ true → task.after_step tasks state number ≡ Some (after_act state number.agent act)
acts tasks state number act is may =
    ap (option_and_then (after_if_applies state number.agent)) is
    ∙ cond-true (applies act state.publics (private_of state number.agent)) (Some (after_act state number.agent act)) None may

pub numbered_cost : (tasks : List AgentTask) (number : TaskStep) (act : Act) → act_of tasks number ≡ Some act → task.step_cost tasks number ≡ act.cost
numbered_cost tasks number act is = ap (λ (o : Option Act). option_map_or (λ a. a.cost) o 0) is

-- lists of one length have the same places
pub same_places : {X Y : Type 0} (xs : List X) (ys : List Y) (k : ℕ) (y : Y) → length xs ≡ length ys → slice_get ys k ≡ Some y → (x : X) × (slice_get xs k ≡ Some x)
same_places xs ys k y long here =
    let within = slice_get_within ys k y here in
    elim ((slice_get_cases xs k).1) [
      | inl found ↦ (found.0, found.2)
      | inr past ↦ absurd (omega (arith, within, long, past.0))
    ]

-- the own action that a task has at a number is that of the step with this number
pub act_at : (tasks : List AgentTask) (t : AgentTask) (n : ℕ) (act : Act) → task_of tasks t.me ≡ Some t → slice_get t.acts n ≡ Some act
    → act_of tasks (record { agent = t.me; action = n }) ≡ Some act
act_at tasks t n act is here = ap (option_and_then (λ (u : AgentTask). slice_get u.acts n)) is ∙ here

-- the instance for which the own action of a number stands, where the number's step is known
pub record HasInstance (team : List Factor) (numbering : Numbering) (tasks : List AgentTask) (t : AgentTask) (act : Act) (step : PlanStep) : Type 0 where
  pub factor : Factor
  pub instance : Instance
  pub own : IsOwnAction team numbering tasks t act step factor instance

pub has_instance : (team : List Factor) (numbering : Numbering) (tasks : List AgentTask) → Stands team numbering tasks
    → (t : AgentTask) → Contains tasks t → (n : ℕ) (act : Act) (step : PlanStep) → slice_get t.acts n ≡ Some act
    → slice_get (steps_of numbering t.me) n ≡ Some step → HasInstance team numbering tasks t act step
has_instance team numbering tasks stands t there n act step here named =
    let its = (stands.tasks_stand t there).acts in
    let found = its.stand n act step here named in
    record {
      factor = found.0;
      instance = found.1;
      own = record {
        task = there;
        agent = its.own step (Contains-slice_get (steps_of numbering t.me) n step named);
        grounded = found.2;
        action = found.3;
      };
    }
