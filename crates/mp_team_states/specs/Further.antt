-- A world that an agent's step leads to: each agent is further.
use Rattle.std.specs.Prelude.{◌≡◌, ℕ, Some}
use Rattle.mp_store.specs.Laws.{IsSound}
use Rattle.mp_search.specs.AgentState.{same_state}
use Rattle.mp_machine.specs.AgentRecord.{AgentRecord}
use Rattle.mp_team_states.specs.Growing.{HasGrown}
use Rattle.mp_world.specs.World.{World, agent_at}

-- an agent has the task that it had, and what it keeps and sent has grown
pub record IsFurther (old new : AgentRecord) : Type 0 where
  pub task : new.task ≡ old.task
  pub kept : HasGrown old.search.kept new.search.kept

-- each agent of a world is there in a later one, and further
abbrev pub HaveGrown : World → World → Type 0
HaveGrown w next =
    (agent : ℕ) (r : AgentRecord) → agent_at w agent ≡ Some r
    → (later : AgentRecord) × (agent_at next agent ≡ Some later) × IsFurther r later

-- the record of each agent's search is one that the rules of a search lead to
abbrev pub HaveSoundRecords : World → Type 0
HaveSoundRecords w =
    (agent : ℕ) (r : AgentRecord) → agent_at w agent ≡ Some r
    → IsSound same_state r.search.kept
