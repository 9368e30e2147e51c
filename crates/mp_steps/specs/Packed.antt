-- What is made of a plan: its steps and its chain where it solves, and else what is found of it.
use Rattle.std.specs.Prelude.{◌≡◌, List}
use Rattle.mp_forms.specs.declared.factor.Factor.{Factor}
use Rattle.mp_joint.specs.declared.plan.PlanStep.{PlanStep}
use Rattle.mp_joint.specs.FactorContribution.{team_of}
use Rattle.mp_plan_verdict.specs.declared.verdict.CheckVerdict.{CheckVerdict}
use Rattle.mp_plan_verdict.specs.declared.verdict.CheckVerdict.TheVariants.{Valid, NoAction, Missing, Forbidden, GoalMissing, GoalForbidden}
use Rattle.mp_plan_verdict.specs.Verdict.{verdict}
use Rattle.mp_steps.specs.declared.plan.PackRefusal.{PackRefusal}
use Rattle.mp_steps.specs.declared.plan.PackRefusal.TheVariants.{Invalid, OutOfMemory}
use Rattle.mp_steps.specs.declared.plan.Packed.{Packed as Answer}
use Rattle.mp_steps.specs.PlanSteps.{plan_chain, plan_steps}

-- the plan solves at this cost, and these are its steps and its chain
pub record IsPacked (factors : List Factor) (plan : List PlanStep) (packed : Answer) : Type 0 where
  pub valid : verdict factors plan ≡ Valid packed.cost
  pub steps : packed.steps ≡ plan_steps (team_of factors) plan
  pub chain : packed.chain ≡ plan_chain (team_of factors) plan

-- something is wrong with a plan
abbrev pub IsNotValid : CheckVerdict → Type 0
IsNotValid (Valid cost) = ⊥
IsNotValid (NoAction time) = Unit {0}
IsNotValid (Missing time f) = Unit {0}
IsNotValid (Forbidden time f) = Unit {0}
IsNotValid (GoalMissing f) = Unit {0}
IsNotValid (GoalForbidden f) = Unit {0}

-- the plan does not solve, and this is found of it; want of memory says nothing
abbrev pub IsRefused : List Factor → List PlanStep → PackRefusal → Type 0
IsRefused factors plan (Invalid found) = (found ≡ verdict factors plan) × IsNotValid found
IsRefused factors plan OutOfMemory = Unit {0}
