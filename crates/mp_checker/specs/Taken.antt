-- What is found of one step of one agent.
use Rattle.std.specs.Prelude.{ℕ, ◌≡◌, ◌≤◌, not, List, length, map, find, Option, Some, None}
use Rattle.mp_forms.specs.declared.factor.Factor.{Factor}
use Rattle.mp_joint.specs.declared.fact.SignedFact.{SignedFact}
use Rattle.mp_joint.specs.declared.plan.PlanStep.{PlanStep}
use Rattle.mp_joint.specs.Instance.{State, Instance, holds, after}
use Rattle.mp_joint.specs.FactorContribution.{instance_at}
use Rattle.mp_plan_verdict.specs.Written.{asked_at}
use Rattle.mp_checker.specs.AgentView.{AreKnown}
use Rattle.mp_checker.specs.Numbering.{object_number}
use Rattle.mp_forms.specs.declared.typed_values.Typed.{Typed}
use Rattle.mp_joint.specs.Fact.{Text}
use Rattle.mp_joint.specs.FactorContribution.{privates_of}
use Rattle.mp_checker.specs.declared.numbered.ObjectNumber.{ObjectNumber}
use Rattle.mp_checker.specs.declared.taken.Taken.{Taken}
use Rattle.mp_checker.specs.declared.taken.Taken.TheVariants.{NoAction, Fails, Done}

-- the first of these that does not hold
abbrev pub failing : State → List SignedFact → Option SignedFact
failing s asked = find (λ x. not (holds s x)) asked

-- it is an instance, which asks for something that does not hold, this first
pub record IsFailing (agent : ℕ) (factor : Factor) (s : State) (step : PlanStep) (x : SignedFact) : Type 0 where
  pub instance : Instance
  pub is : instance_at agent factor step.action step.args ≡ Some instance
  pub first : failing s (asked_at agent factor step.action step.args) ≡ Some x

-- it is an instance, all that it asks for holds, and this is the state after it
pub record IsDone (agent : ℕ) (factor : Factor) (s t : State) (step : PlanStep) (cost : ℕ) : Type 0 where
  pub instance : Instance
  pub is : instance_at agent factor step.action step.args ≡ Some instance
  pub none : failing s (asked_at agent factor step.action step.args) ≡ None
  pub after : t ≡ after instance s
  pub costs : instance.cost ≡ cost
  pub small : cost ≤ 16000000

abbrev pub IsTaken : ℕ → Factor → State → State → PlanStep → Taken → Type 0
IsTaken agent factor s t step NoAction = instance_at agent factor step.action step.args ≡ None
IsTaken agent factor s t step (Fails x) = IsFailing agent factor s step x
IsTaken agent factor s t step (Done cost) = IsDone agent factor s t step cost

-- one object stands for each of these parameters; in numbers they are these
pub record IsBound (names : List Text) (factor : Factor) (params : List Typed) (objects : List Text) (args : List ObjectNumber) : Type 0 where
  pub long : length objects ≡ length params
  pub are : args ≡ map (object_number names (privates_of factor)) objects
  pub known : AreKnown names objects

-- it holds where a step is taken
abbrev pub IfDone : Taken → Type 0 → Type 0
IfDone NoAction P = Unit {0}
IfDone (Fails x) P = Unit {0}
IfDone (Done cost) P = P
