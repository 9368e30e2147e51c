-- The concurrent steps of a plan of the united problem, and its chain.
use Rattle.std.specs.Prelude.{ℕ, List, length}
use Rattle.std.specs.List.{filter_map}
use Rattle.mp_joint.specs.declared.plan.PlanStep.{PlanStep}
use Rattle.mp_joint.specs.Plan.{Contribution}
use Rattle.mp_steps.specs.Levels.{levels}
use Rattle.mp_steps.specs.Steps.{steps, chain}
use Rattle.mp_steps.specs.Interference.{at_time, interfere_at}

-- the level of each action
abbrev pub plan_levels : List Contribution → List PlanStep → List ℕ
plan_levels team plan = levels (interfere_at team plan) (length plan)

-- the times of the actions that may be done at the same time, step by step
abbrev pub plan_steps : List Contribution → List PlanStep → List (List ℕ)
plan_steps team plan = steps (plan_levels team plan) (length plan)

abbrev pub plan_chain : List Contribution → List PlanStep → List ℕ
plan_chain team plan = chain (interfere_at team plan) (plan_levels team plan) (length plan)

-- the actions of a plan, in another order of their times
abbrev pub in_order : List PlanStep → List ℕ → List PlanStep
in_order plan order = filter_map (at_time plan) order
