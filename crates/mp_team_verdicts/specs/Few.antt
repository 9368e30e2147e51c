-- How many entries agents keep, and how many steps the paths to them have.
use Rattle.std.specs.Prelude.{◌≡◌, ℕ, ◌≤◌, ◌<◌, ◌^◌, List, length, Some}
use Rattle.std.specs.List.{sum_by}
use Rattle.mp_task.specs.Plan.{TaskStep}
use Rattle.mp_machine.specs.AgentRecord.{AgentRecord}
use Rattle.mp_team_states.specs.Paths.{IsPath}
use Rattle.mp_team_states.specs.Room.{expanded_by_all}
use Rattle.mp_world.specs.World.{World, agent_at}

-- The path to each entry has at most as many steps as all agents have expanded entries.
abbrev pub ArePathsShort : World → Type 0
ArePathsShort w =
    (agent number : ℕ) (steps : List TaskStep) → IsPath w agent number steps
    → length steps ≤ expanded_by_all w

-- how many entries an agent keeps, and how many all agents keep
abbrev pub entries_of : AgentRecord → ℕ
entries_of r = length r.search.kept.entries

abbrev pub kept_by_all : World → ℕ
kept_by_all w = sum_by entries_of w.agents

-- each agent keeps fewer entries than this number
abbrev pub KeepFew : World → Type 0
KeepFew w = (agent : ℕ) (r : AgentRecord) → agent_at w agent ≡ Some r → entries_of r < 2 ^ 46
