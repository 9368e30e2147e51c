-- What each verdict says of a plan of the united problem (MA-STRIPS).
use Rattle.std.specs.Prelude.{ℕ, ◌+◌, ◌≡◌, List, ◌∷◌, ◌++◌, length, find, not, Option, Some, None}
use Rattle.mp_forms.specs.declared.factor.Factor.{Factor}
use Rattle.mp_joint.specs.declared.fact.SignedFact.{SignedFact}
use Rattle.mp_joint.specs.declared.plan.PlanStep.{PlanStep}
use Rattle.mp_joint.specs.Fact.{plain, complement}
use Rattle.mp_joint.specs.Instance.{State, Instance, holds}
use Rattle.mp_joint.specs.Plan.{Contribution, Solves, cost, instance_of, joint_start, united}
use Rattle.mp_joint.specs.FactorContribution.{team_of}
use Rattle.mp_runs.specs.System.{state_after}
use Rattle.mp_plan_verdict.specs.declared.verdict.CheckVerdict.{CheckVerdict}
use Rattle.mp_plan_verdict.specs.declared.verdict.CheckVerdict.TheVariants.{Valid, NoAction, Missing, Forbidden, GoalMissing, GoalForbidden}
use Rattle.mp_plan_verdict.specs.Written.{written, written_goals}

-- the steps before the one of a time may be applied one after another, and lead to a state
pub record ComesTo (team : List Contribution) (plan : List PlanStep) (time : ℕ) : Type 0 where
  pub before : List PlanStep
  pub step : PlanStep
  pub behind : List PlanStep
  pub state : State
  pub parts : plan ≡ before ++ step ∷ behind
  pub place : time ≡ length before + 1
  pub reached : state_after (united team) (joint_start team) before ≡ Some state

-- the first of these that does not hold
abbrev pub first_false : State → List SignedFact → Option SignedFact
first_false s asked = find (λ x. not (holds s x)) asked

-- the step of a time is no instance
pub record IsNoAction (factors : List Factor) (plan : List PlanStep) (time : ℕ) : Type 0 where
  pub comes : ComesTo (team_of factors) plan time
  pub none : instance_of (team_of factors) comes.step ≡ None

-- the step of a time is an instance, and this is what it asks for first that does not hold
pub record FailsAt (factors : List Factor) (plan : List PlanStep) (time : ℕ) (x : SignedFact) : Type 0 where
  pub comes : ComesTo (team_of factors) plan time
  pub instance : Instance
  pub is : instance_of (team_of factors) comes.step ≡ Some instance
  pub first : first_false comes.state (written factors comes.step) ≡ Some x

-- each step may be applied in its turn, and this is the first goal that does not hold then
pub record FailsAtEnd (factors : List Factor) (plan : List PlanStep) (x : SignedFact) : Type 0 where
  pub state : State
  pub reached : state_after (united (team_of factors)) (joint_start (team_of factors)) plan ≡ Some state
  pub first : first_false state (written_goals factors) ≡ Some x

abbrev pub Means : List Factor → List PlanStep → CheckVerdict → Type 0
Means factors plan (Valid c) = Solves (team_of factors) plan × (cost (team_of factors) plan ≡ c)
Means factors plan (NoAction time) = IsNoAction factors plan time
Means factors plan (Missing time f) = FailsAt factors plan time (plain f)
Means factors plan (Forbidden time f) = FailsAt factors plan time (complement f)
Means factors plan (GoalMissing f) = FailsAtEnd factors plan (plain f)
Means factors plan (GoalForbidden f) = FailsAtEnd factors plan (complement f)
