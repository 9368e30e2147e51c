-- How large the costs and estimates of entries are: each expansion adds the cost of one action at
-- most.
use Rattle.std.specs.Prelude.{ℕ, ◌*◌, ◌<◌, ◌≤◌, ◌^◌, List, Contains, IfSome}
use Rattle.std.specs.List.{sum_by}
use Rattle.mp_sets.specs.Numbers.{Numbers}
use Rattle.mp_task.specs.AgentTask.{AgentTask}
use Rattle.mp_store.specs.declared.entry.Entry.{Entry}
use Rattle.mp_search.specs.AgentState.{AgentState}
use Rattle.mp_team_states.specs.Paths.{IsEntryAt}
use Rattle.mp_world.specs.Values.{Values}
use Rattle.mp_world.specs.World.{World}

-- how many entries all agents have expanded
abbrev pub expanded_by_all : World → ℕ
expanded_by_all w = sum_by (λ r. r.search.expansions) w.agents

-- an entry costs at most what so many of the dearest actions cost, and its estimate is small
pub record IsSmall (expansions : ℕ) (e : Entry AgentState) : Type 0 where
  pub cost : e.g ≤ 16000000 * expansions
  pub estimate : e.h < 2 ^ 50

-- so it is with all entries of all agents
abbrev pub AreSmall : World → Type 0
AreSmall w =
    (agent number : ℕ) (e : Entry AgentState) → IsEntryAt w agent number e
    → IsSmall (expanded_by_all w) e

-- the heuristic's values are small for each task of a team
abbrev pub HasSmallValues : Values → List AgentTask → Type 0
HasSmallValues value tasks =
    (t : AgentTask) (publics privates : Numbers) → Contains tasks t
    → IfSome (value t publics privates) (λ h. h < 2 ^ 50)
