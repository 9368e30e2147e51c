-- The united problem, its plans and what they cost (MA-STRIPS).
use Rattle.std.specs.Prelude.{ℕ, suc, zero, Bool, ◌&&◌, Option, None, option_and_then, List, slice_get}
use Rattle.std.specs.Option.{option_map_or}
use Rattle.std.specs.List.{list_any, flat_map}
use Rattle.mp_runs.specs.System.{System, IsPlanFrom, plan_cost}
use Rattle.mp_joint.specs.declared.fact.NamedFact.{NamedFact}
use Rattle.mp_joint.specs.declared.plan.PlanStep.{PlanStep}
use Rattle.mp_joint.specs.Fact.{Text, is_among}
use Rattle.mp_joint.specs.Instance.{Instance, State, all_true, none_true, successor}

-- What one agent's files bring into the united problem: the instance of each of its actions at each list of
-- objects (none where there is no such instance), its initial facts, the facts that its goals ask for and those that
-- they negate.
pub record Contribution : Type 0 where
  pub instance_at : Text → List Text → Option Instance
  pub init : List NamedFact
  pub goal : List NamedFact
  pub never : List NamedFact

-- what an agent contributes; agents are numbered from 1
abbrev pub contribution_of : List Contribution → ℕ → Option Contribution
contribution_of team zero = None
contribution_of team (suc k) = slice_get team k

-- the instance that a step stands for: none where the step is no instance
abbrev pub instance_of : List Contribution → PlanStep → Option Instance
instance_of team step = option_and_then (λ c. c.instance_at step.action step.args) (contribution_of team step.agent)

-- the state after a step: none where the step is no instance, or its instance may not be applied
abbrev pub step_after : List Contribution → State → PlanStep → Option State
step_after team s step = option_and_then (successor s) (instance_of team step)

-- what a step costs: what its instance does
abbrev pub step_cost : List Contribution → PlanStep → ℕ
step_cost team step = option_map_or (λ i. i.cost) (instance_of team step) 0

-- the joint start: a fact is true where some agent's files say so, and whatever isn't initial is false
abbrev pub joint_start : List Contribution → State
joint_start team = λ f. list_any (λ c. is_among f c.init) team

-- the joint goal: the facts that are to be true in the end, for all agents
abbrev pub joint_goal : List Contribution → List NamedFact
joint_goal team = flat_map (λ c. c.goal) team

-- and those that are to be false
abbrev pub joint_never : List Contribution → List NamedFact
joint_never team = flat_map (λ c. c.never) team

-- the goals of all agents hold
abbrev pub is_goal : List Contribution → State → Bool
is_goal team s = all_true s (joint_goal team) && none_true s (joint_never team)

-- the united problem, as a transition system
abbrev pub united : List Contribution → System State PlanStep
united team = record { after = step_after team; cost = step_cost team; is_goal = is_goal team }

-- a plan solves where each step may be applied in its turn from the start and all goals hold at the end
abbrev pub Solves : List Contribution → List PlanStep → Type 0
Solves team plan = IsPlanFrom (united team) (joint_start team) plan

-- what a plan costs: the sum of its instances' costs
abbrev pub cost : List Contribution → List PlanStep → ℕ
cost team plan = plan_cost (united team) plan
