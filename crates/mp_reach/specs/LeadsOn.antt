-- How the searches of a team's agents lead on to one another (MAD-A*, Nissim and Brafman 2014, with
-- a receiver's own reasons).
use Rattle.std.specs.Prelude.{◌≡◌, ◌≢◌, ℕ, ◌≤◌, Bool, true, List, Option, Contains, IsTrue, ◌⊎◌}
use Rattle.mp_sets.specs.Numbers.{holds}
use Rattle.mp_task.specs.declared.act.Act.{Act}
use Rattle.mp_task.specs.declared.act.Far.{Far}
use Rattle.mp_task.specs.AgentTask.{AgentTask}
use Rattle.mp_task.specs.Met.{is_met}
use Rattle.mp_task.specs.Plan.{JointState, TaskStep, goals_hold, joint_start, private_of}
use Rattle.mp_task.specs.Public.{is_public}
use Rattle.mp_order.specs.Ordered.{TakesStep}
use Rattle.mp_reach.specs.Explored.{IsExplored, Reaches}
use Rattle.mp_reach.specs.Found.{Found}
use Rattle.mp_reach.specs.Ways.{IsBound, IsHopeless, Way}

-- a joint state in the search of an agent
pub record Known : Type 0 where
  pub agent : ℕ
  pub state : JointState

-- An agent knows that a joint state concerns another one: it has the public part of an action of
-- that agent whose preconditions are true, or that agent's private goals don't all hold.
pub record Concerns (t other : AgentTask) (s : JointState) : Type 0 where
  pub another : other.me ≢ t.me
  pub because :
      ((part : Far)
      × Contains t.far part
      × (part.by ≡ other.me)
      × IsTrue (holds s.publics part.pre))
      ⊎ ¬ IsTrue (is_met other (private_of s other.me))

-- what an agent's action leads to may be seen by others: the action is public, or it makes the
-- agent's private goals all true
abbrev pub IsVisible : AgentTask → Act → JointState → JointState → Type 0
IsVisible t act s reached =
    IsTrue (is_public act)
    ⊎ (¬ IsTrue (is_met t (private_of s t.me)) × IsTrue (is_met t (private_of reached t.me)))

-- any action
abbrev pub any_action : Act → Bool
any_action act = true

-- An own action leads on in the agent's own search, and where what it leads to may be seen, in the
-- search of each agent that this concerns.
pub data LeadsOn (tasks : List AgentTask) : Known → ℕ → Known → Type 0 where
  alone :
      (t : AgentTask) (s reached : JointState) (step : TaskStep)
      → Contains tasks t
      → (takes : TakesStep tasks t.me any_action s step reached)
      → LeadsOn tasks
      (record { agent = t.me; state = s })
      takes.act.cost
      (record { agent = t.me; state = reached })
  to_another :
      (t other : AgentTask) (s reached : JointState) (step : TaskStep)
      → Contains tasks t
      → Contains tasks other
      → (takes : TakesStep tasks t.me any_action s step reached)
      → IsVisible t takes.act s reached
      → Concerns t other reached
      → LeadsOn tasks
      (record { agent = t.me; state = s })
      takes.act.cost
      (record { agent = other.me; state = reached })

-- each agent starts from the joint start
pub record IsRoot (tasks : List AgentTask) (k : Known) : Type 0 where
  pub task : AgentTask
  pub in_team : Contains tasks task
  pub agent : k.agent ≡ task.me
  pub state : k.state ≡ joint_start tasks

-- all goals of the team are true
abbrev pub IsGoal : List AgentTask → Known → Type 0
IsGoal tasks k = IsTrue (goals_hold tasks k.state)

-- a way from a root to a goal costs at most so much
pub record HasWayWithin (tasks : List AgentTask) (most : ℕ) : Type 0 where
  pub first : Known
  pub last : Known
  pub cost : ℕ
  pub root : IsRoot tasks first
  pub way : Way (LeadsOn tasks) first cost last
  pub goal : IsGoal tasks last
  pub within : cost ≤ most

-- ---- whatever counts as a goal

module _ (tasks : List AgentTask) (Goal : Known → Type 0) where
  -- what the agents of a team have found is explored, but for one entry that may be exempt
  abbrev pub IsTeamExploredFor : {I : Type 0} → Option I → Found I Known → Type 0
  IsTeamExploredFor exempt found =
      IsExplored (LeadsOn tasks) Goal (IsRoot tasks) exempt found

  -- a joint state in an agent's search leads to no goal
  abbrev pub IsTeamHopelessFor : Known → Type 0
  IsTeamHopelessFor k = IsHopeless (LeadsOn tasks) Goal k

  -- an estimate is at most what is still to be paid from there
  abbrev pub IsTeamBoundFor : Known → ℕ → Type 0
  IsTeamBoundFor k estimate = IsBound (LeadsOn tasks) Goal k estimate

  -- it has an entry at a cost or less, or is under way at such a cost, or leads to no goal
  abbrev pub TeamReachesFor : {I : Type 0} → Found I Known → Known → ℕ → Type 0
  TeamReachesFor found k cost = Reaches (LeadsOn tasks) Goal found k cost

-- each joint state counts as a goal
abbrev pub IsAny : Known → Type 0
IsAny k = Unit {0}

-- ---- the same where all goals of the team are true

abbrev pub IsTeamExplored : {I : Type 0} → List AgentTask → Option I → Found I Known → Type 0
IsTeamExplored tasks exempt found = IsTeamExploredFor tasks (IsGoal tasks) exempt found

abbrev pub IsTeamHopeless : List AgentTask → Known → Type 0
IsTeamHopeless tasks k = IsTeamHopelessFor tasks (IsGoal tasks) k

abbrev pub IsTeamBound : List AgentTask → Known → ℕ → Type 0
IsTeamBound tasks k estimate = IsTeamBoundFor tasks (IsGoal tasks) k estimate

abbrev pub TeamReaches : {I : Type 0} → List AgentTask → Found I Known → Known → ℕ → Type 0
TeamReaches tasks found k cost = TeamReachesFor tasks (IsGoal tasks) found k cost
