-- Actions that have come to a sink of actions.
use Rattle.std.specs.Prelude.{List}
use Rattle.mp_joint.specs.declared.plan.PlanStep.{PlanStep}
use Rattle.mp_joint.specs.Plan.{Contribution}
use Rattle.mp_checker.specs.Steps.{AreNumbered, NumberedStep}

-- some actions have come, whichever they are
abbrev pub HasCome : (List NumberedStep → Type 0) → Type 0
HasCome have_come = (steps : List NumberedStep) × have_come steps

-- those of a plan have come, with numbers for their facts
pub record HasPlanCome (have_come : List NumberedStep → Type 0) (team : List Contribution) (plan : List PlanStep) : Type 0 where
  pub steps : List NumberedStep
  pub came : have_come steps
  pub numbered : AreNumbered team plan steps
