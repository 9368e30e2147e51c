-- When the tasks of a team's agents belong together.
use Rattle.std.specs.Prelude.{◌≡◌, ◌≢◌, ◌≤◌, ◌↔◌, ℕ, List, length, map, All, Contains, IsTrue}
use Rattle.std.specs.List.{AllPairs, range_with_len}
use Rattle.mp_task.specs.declared.act.Act.{Act}
use Rattle.mp_task.specs.declared.act.Far.{Far}
use Rattle.mp_task.specs.AgentTask.{AgentTask}
use Rattle.mp_task.specs.Limits.{IsWithinLimits}
use Rattle.mp_task.specs.Met.{met_at_start}
use Rattle.mp_task.specs.Public.{is_public, part_of}

-- the public part of a public action of another agent of the team
pub record IsFarPart (tasks : List AgentTask) (me : ℕ) (part : Far) : Type 0 where
  pub other : AgentTask
  pub in_team : Contains tasks other
  pub another : other.me ≢ me
  pub act : Act
  pub own : Contains other.acts act
  pub public : IsTrue (is_public act)
  pub is : part ≡ part_of other.me act

-- The list of the others' parts: the public parts of all public actions of the other agents and
-- nothing else, none twice, and agent by agent in rising order. The order among one agent's parts
-- is left open.
pub record IsFarList (tasks : List AgentTask) (me : ℕ) (far : List Far) : Type 0 where
  pub exact : (part : Far) → Contains far part ↔ IsFarPart tasks me part
  pub once : AllPairs (λ a b. a ≢ b) far
  pub by_agent : AllPairs (λ a b. a.by ≤ b.by) far

-- what the task of one agent says of the team
pub record FitsTeam (tasks : List AgentTask) (t : AgentTask) : Type 0 where
  pub agents : t.agents ≡ length tasks
  pub met : t.met ≡ met_at_start tasks
  pub far : IsFarList tasks t.me t.far

-- what two tasks of one team say alike
pub record SayAlike (t u : AgentTask) : Type 0 where
  pub publics : t.publics ≡ u.publics
  pub start_pub : t.start_pub ≡ u.start_pub
  pub goal_pub : t.goal_pub ≡ u.goal_pub

-- Tasks agree where they are those of the agents from 1 on in their order, each fits the team, and
-- all say the same of the public facts.
pub record Agree (tasks : List AgentTask) : Type 0 where
  pub numbered : map (λ t. t.me) tasks ≡ range_with_len 1 (length tasks)
  pub team : All (FitsTeam tasks) tasks
  pub alike : (t u : AgentTask) → Contains tasks t → Contains tasks u → SayAlike t u

-- The tasks of a team: they agree, and each is within the limits.
pub record AreTeamTasks (tasks : List AgentTask) : Type 0 where
  pub agree : Agree tasks
  pub within : All IsWithinLimits tasks

-- one of the tasks of a team, which agree
pub record IsTeamMember (tasks : List AgentTask) (t : AgentTask) : Type 0 where
  pub agree : Agree tasks
  pub in_team : Contains tasks t

-- Less than agreement: tasks are those of the agents from 1 on in their order, and each counts the team right.
pub record AreNumbered (tasks : List AgentTask) : Type 0 where
  pub numbered : map (λ t. t.me) tasks ≡ range_with_len 1 (length tasks)
  pub team : All (λ t. t.agents ≡ length tasks) tasks
