-- The other agents of a team, and entries of an agent by which its messages go to them.
use Rattle.std.specs.Prelude.{◌≡◌, ◌≢◌, ◌≤◌, ◌<◌, ℕ, [], All}
use Rattle.mp_task.specs.AgentTask.{AgentTask}
use Rattle.mp_messages.specs.declared.history.Entry.{Entry}
use Rattle.mp_messages.specs.declared.history.Entry.TheVariants.{Act, Put, Took}

-- a number is that of another agent of the team than the one of this task
pub record IsAnother (t : AgentTask) (agent : ℕ) : Type 0 where
  pub from_1 : 1 ≤ agent
  pub in_team : agent ≤ t.agents
  pub another : agent ≢ t.me

-- An entry of the agent of a task: what it puts goes to another agent of its team and has bytes, at least one of them, and
-- what it takes comes from another agent.
abbrev pub IsOfAgent : AgentTask → Entry → Type 0
IsOfAgent t (Act agent kind) = agent ≡ t.me
IsOfAgent t (Put from to bytes) =
    (from ≡ t.me) × IsAnother t to × (bytes ≢ []) × All (λ byte. byte < 256) bytes
IsOfAgent t (Took by from bytes) = (by ≡ t.me) × IsAnother t from
