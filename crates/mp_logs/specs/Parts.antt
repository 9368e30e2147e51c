-- Logs that are made of the parts of their agents.
use Rattle.std.specs.Prelude.{◌≡◌, ◌≤◌, ℕ, List, length, Some, All, Contains}
use Rattle.mp_task.specs.AgentTask.{AgentTask}
use Rattle.mp_messages.specs.declared.history.Entry.{Entry}
use Rattle.mp_messages.specs.History.{IsHistory, agent_of, schedule, under_way as under_way_in}
use Rattle.mp_machine.specs.AgentRecord.{AgentRecord}
use Rattle.mp_world.specs.Events.{run}
use Rattle.mp_world.specs.Logs.{IsLog}
use Rattle.mp_world.specs.Team.{Team}
use Rattle.mp_world.specs.World.{IsAgent, World, agent_at, under_way}

-- an entry is that of an agent of a team of so many
abbrev pub IsOwned : ℕ → Entry → Type 0
IsOwned agents e = (1 ≤ agent_of e) × (agent_of e ≤ agents)

-- a legal history of a network whose agents are those of the team
pub record IsTeamHistory (tasks : List AgentTask) (log : List Entry) : Type 0 where
  pub history : IsHistory log
  pub owned : All (IsOwned (length tasks)) log

-- A log of the team. The run of its schedule leads to these records, and the messages that are under way then are those that
-- are under way in the log.
pub record IsLogOfParts
    (team : Team)
    (log : List Entry)
    (record_of : AgentTask → AgentRecord)
    : Type 0 where
  pub is_log : IsLog team log
  pub last : World
  pub runs : run team (schedule log) ≡ Some last
  pub agents : (t : AgentTask) → Contains team.tasks t → agent_at last t.me ≡ Some (record_of t)
  pub mail :
      (from to : ℕ)
      → IsAgent last from
      → IsAgent last to
      → under_way last from to ≡ under_way_in from to log
