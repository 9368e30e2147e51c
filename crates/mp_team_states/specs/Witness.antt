-- Something in a world shows that a plan may cost so much.
use Rattle.std.specs.Prelude.{◌≡◌, ℕ, ◌+◌, ◌≤◌, true, Contains}
use Rattle.mp_messages.specs.declared.message.Message.TheVariants as kinds
use Rattle.mp_messages.specs.declared.message.State.{State}
use Rattle.mp_messages.specs.Spelling.{spelling}
use Rattle.mp_store.specs.declared.entry.Entry.{Entry}
use Rattle.mp_store.specs.declared.entry.Mark.TheVariants.{Open}
use Rattle.mp_search.specs.AgentState.{AgentState}
use Rattle.mp_team_states.specs.Paths.{IsEntryAt}
use Rattle.mp_world.specs.World.{IsAgent, World, under_way}

-- An agent's open entry or a state under way, of which cost and estimate are together at most that,
-- or an agent's goal entry that costs at most that.
pub data HasWitnessIn (w : World) (cost : ℕ) : Type 0 where
  open_entry :
      (agent number : ℕ) (e : Entry AgentState)
      → IsEntryAt w agent number e → e.mark ≡ Open → e.g + e.h ≤ cost
      → HasWitnessIn w cost
  state_under_way :
      (from to : ℕ) (m : State)
      → IsAgent w from → IsAgent w to
      → Contains (under_way w from to) (spelling (kinds.State m)) → m.g + m.h ≤ cost
      → HasWitnessIn w cost
  goal_entry :
      (agent number : ℕ) (e : Entry AgentState)
      → IsEntryAt w agent number e → e.goal ≡ true → e.g ≤ cost
      → HasWitnessIn w cost
