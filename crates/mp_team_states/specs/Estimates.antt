-- What is so of the estimates and the goal flags of entries.
use Rattle.std.specs.Prelude.{◌≡◌, ℕ, List}
use Rattle.mp_task.specs.AgentTask.{AgentTask}
use Rattle.mp_task.specs.Plan.{goals_hold}
use Rattle.mp_store.specs.declared.entry.Entry.{Entry}
use Rattle.mp_search.specs.AgentState.{AgentState}
use Rattle.mp_reach.specs.LeadsOn.{IsGoal, IsTeamBoundFor, Known}
use Rattle.mp_team_states.specs.Paths.{IsEntryAt}
use Rattle.mp_world.specs.Joint.{joint}
use Rattle.mp_world.specs.World.{World}

-- Each entry's estimate is at most what is still to be paid from its joint state to what counts as
-- a goal, in whichever agent's search: the agents that it is sent to go on from there, too.
abbrev pub AreEstimatesBoundsFor : List AgentTask → (Known → Type 0) → World → Type 0
AreEstimatesBoundsFor tasks Goal w =
    (agent number : ℕ) (e : Entry AgentState) → IsEntryAt w agent number e
    → (other : ℕ)
    → IsTeamBoundFor tasks Goal (record { agent = other; state = joint w agent e.key }) e.h

-- the same where all goals of the team are true
abbrev pub AreEstimatesBounds : List AgentTask → World → Type 0
AreEstimatesBounds tasks w = AreEstimatesBoundsFor tasks (IsGoal tasks) w

-- an entry's flag says whether all goals of the team are true in its joint state
abbrev pub AreGoalsFlagged : List AgentTask → World → Type 0
AreGoalsFlagged tasks w =
    (agent number : ℕ) (e : Entry AgentState) → IsEntryAt w agent number e
    → e.goal ≡ goals_hold tasks (joint w agent e.key)
