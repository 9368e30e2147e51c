-- A team that runs: what each agent has done so far, and the messages that are under way (MAD-A*, Nissim and Brafman
-- 2014).
use Rattle.std.specs.Prelude.{◌≡◌, ◌≤◌, ℕ, zero, suc, ◌-◌, List, [], length, map, replicate, Option, None, slice_get, slice_index_or, slice_set, All}
use Rattle.mp_task.specs.AgentTask.{AgentTask}
pub use Rattle.mp_task.specs.Agreement.{AreNumbered}
use Rattle.mp_machine.specs.AgentRecord.{AgentRecord, new_record}
use Rattle.mp_world.specs.Team.{Team}

pub record World : Type 0 where
  -- the agents, agent 1 first
  pub agents : List AgentRecord
  -- the messages under way as bytes, the oldest first: for each sender a list with one for each receiver
  pub mail : List (List (List (List ℕ)))

-- agents are numbered from 1
abbrev pub agent_at : World → ℕ → Option AgentRecord
agent_at w zero = None
agent_at w (suc k) = slice_get w.agents k

-- a number is that of an agent
pub record IsAgent (w : World) (agent : ℕ) : Type 0 where
  pub from_1 : 1 ≤ agent
  pub at_most : agent ≤ length w.agents

-- the messages under way from one agent to all others, and to one
abbrev pub mail_of : World → ℕ → List (List (List ℕ))
mail_of w from = slice_index_or w.mail (from - 1) []

abbrev pub under_way : World → ℕ → ℕ → List (List ℕ)
under_way w from to = slice_index_or (mail_of w from) (to - 1) []

-- other messages are under way from one agent to another
abbrev pub with_under_way : World → ℕ → ℕ → List (List ℕ) → World
with_under_way w from to messages =
    record w { mail = slice_set w.mail (from - 1) (slice_set (mail_of w from) (to - 1) messages) }

-- an agent has done more
abbrev pub with_agent : World → ℕ → AgentRecord → World
with_agent w agent r = record w { agents = slice_set w.agents (agent - 1) r }

-- The world of a team at the start.
abbrev pub start_world : Team → World
start_world team = record {
  agents = map (λ t. new_record t (team.value t) team.limit) team.tasks;
  mail = replicate (length team.tasks) (replicate (length team.tasks) []);
}

-- A world of a team: each agent has its task, and there is a list for each sender and each receiver.
pub record IsTeamWorld (tasks : List AgentTask) (w : World) : Type 0 where
  pub team : map (λ r. r.task) w.agents ≡ tasks
  pub senders : length w.mail ≡ length tasks
  pub receivers : All (λ row. length row ≡ length tasks) w.mail
