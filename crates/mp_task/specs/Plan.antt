-- Plans of a team over the nameless tasks of its agents (MA-STRIPS, Brafman and Domshlak 2008).
use Rattle.std.specs.Prelude.{◌≡◌, ℕ, zero, suc, ◌-◌, Bool, ◌&&◌, Option, Some, None, option_and_then, List, [], ◌∷◌, length, map, slice_get, slice_index_or, slice_set, if◌then◌else◌}
use Rattle.std.specs.Option.{option_map_or}
use Rattle.std.specs.List.{list_all}
use Rattle.std.specs.FinSet as set
use Rattle.mp_runs.specs.System.{System, IsPlanFrom, plan_cost}
use Rattle.mp_sets.specs.Numbers.{Numbers, holds, after}
use Rattle.mp_task.specs.declared.act.Act.{Act}
use Rattle.mp_task.specs.AgentTask.{AgentTask}
use Rattle.mp_task.specs.Met.{is_met}

-- a joint state: which public facts are true, and for each agent in their order which of its
-- private facts are
pub record JointState : Type 0 where
  pub publics : Numbers
  pub privates : List Numbers

-- it has a set of private facts for each agent of a team
abbrev pub IsJointState : List AgentTask → JointState → Type 0
IsJointState tasks s = length s.privates ≡ length tasks

-- one action of a plan: the agent, numbered from 1, and the number of its own action
pub record TaskStep : Type 0 where
  pub agent : ℕ
  pub action : ℕ

-- the task of an agent: none where the team has no such agent
abbrev pub task_of : List AgentTask → ℕ → Option AgentTask
task_of tasks zero = None
task_of tasks (suc k) = slice_get tasks k

-- the action that a step stands for: none where there is no such action
abbrev pub act_of : List AgentTask → TaskStep → Option Act
act_of tasks step = option_and_then (λ t. slice_get t.acts step.action) (task_of tasks step.agent)

-- the private facts of an agent that are true
abbrev pub private_of : JointState → ℕ → Numbers
private_of s agent = slice_index_or s.privates (agent - 1) set.empty

-- an action may be applied where its preconditions are true
abbrev pub applies : Act → Numbers → Numbers → Bool
applies act publics privates = holds publics act.pre_pub && holds privates act.pre_priv

-- The state after an action of an agent: the public facts and the agent's own private ones are
-- without the deletes and with the adds, and the others' private facts are as they were.
abbrev pub after_act : JointState → ℕ → Act → JointState
after_act s agent act = record {
  publics = after s.publics act.del_pub act.add_pub;
  privates = slice_set s.privates (agent - 1) (after (private_of s agent) act.del_priv act.add_priv);
}

abbrev pub after_if_applies : JointState → ℕ → Act → Option JointState
after_if_applies s agent act =
    if applies act s.publics (private_of s agent) then Some (after_act s agent act) else None

-- the state after a step: none where the step stands for no action, or the action may not be
-- applied
abbrev pub after_step : List AgentTask → JointState → TaskStep → Option JointState
after_step tasks s step =
    option_and_then (after_if_applies s step.agent) (act_of tasks step)

-- what the action costs that a step stands for
abbrev pub step_cost : List AgentTask → TaskStep → ℕ
step_cost tasks step = option_map_or (λ act. act.cost) (act_of tasks step) 0

-- whether the goals of all agents are true: the public ones, and each agent's private ones
abbrev pub goals_hold : List AgentTask → JointState → Bool
goals_hold tasks s =
    list_all (λ t. holds s.publics t.goal_pub && is_met t (private_of s t.me)) tasks

-- the team as a transition system
abbrev pub team_system : List AgentTask → System JointState TaskStep
team_system tasks = record {
  after = after_step tasks;
  cost = step_cost tasks;
  is_goal = goals_hold tasks;
}

-- the public facts that are true at the start, of which all tasks say the same
abbrev pub public_start : List AgentTask → Numbers
public_start [] = set.empty
public_start (t ∷ ts) = set.from_list t.start_pub

abbrev pub joint_start : List AgentTask → JointState
joint_start tasks = record {
  publics = public_start tasks;
  privates = map (λ t. set.from_list t.start_priv) tasks;
}

-- A plan from a joint state solves where each step may be applied in its turn and all goals are
-- true at the end.
abbrev pub SolvesFrom : List AgentTask → JointState → List TaskStep → Type 0
SolvesFrom tasks s plan = IsPlanFrom (team_system tasks) s plan

-- and a plan of the team is one from the start
abbrev pub TaskSolves : List AgentTask → List TaskStep → Type 0
TaskSolves tasks plan = SolvesFrom tasks (joint_start tasks) plan

-- what a plan costs: the sum of its actions' costs
abbrev pub task_cost : List AgentTask → List TaskStep → ℕ
task_cost tasks plan = plan_cost (team_system tasks) plan
