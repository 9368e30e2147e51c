-- What an expansion is worth, and a heuristic that knows nothing.
use Rattle.std.specs.Prelude.{◌≡◌, ℕ, ◌≤◌, ◌<◌, true, Some, ◌⊎◌}
use Rattle.mp_store.specs.declared.entry.Entry.{Entry}
use Rattle.mp_store.specs.declared.entry.Mark.TheVariants.{Open, Expanded}
use Rattle.mp_store.specs.Record.{f}
use Rattle.mp_search.specs.AgentState.{AgentState}
use Rattle.mp_team_states.specs.Paths.{IsEntryAt}
use Rattle.mp_world.specs.Joint.{joint}
use Rattle.mp_world.specs.Values.{Values}
use Rattle.mp_world.specs.World.{World}

-- an agent has expanded the entry of a number
pub record IsExpandedAt (w : World) (agent number : ℕ) : Type 0 where
  pub entry : Entry AgentState
  pub there : IsEntryAt w agent number entry
  pub is : entry.mark ≡ Expanded

-- An agent expands an open entry, and no other one. No open entry has a lesser sum of cost and
-- estimate, and no goal entry costs as little as that. Each entry of the same joint state that the
-- agent expanded before costs more.
pub record ExpandsOne (w : World) (agent : ℕ) (next : World) : Type 0 where
  pub number : ℕ
  pub entry : Entry AgentState
  pub there : IsEntryAt w agent number entry
  pub is_open : entry.mark ≡ Open
  pub least : (other : ℕ) (e : Entry AgentState) → IsEntryAt w agent other e → e.mark ≡ Open
      → f entry ≤ f e
  pub below : (other : ℕ) (e : Entry AgentState) → IsEntryAt w agent other e → e.goal ≡ true
      → f entry < e.g
  pub falling : (other : ℕ) (before : IsExpandedAt w agent other)
      → joint w agent before.entry.key ≡ joint w agent entry.key → entry.g < before.entry.g
  pub is : IsExpandedAt next agent number
  pub only : (other : ℕ) → IsExpandedAt next agent other
      → (other ≡ number) ⊎ IsExpandedAt w agent other

-- the values of a heuristic that knows nothing
abbrev pub nothing_known : Values
nothing_known t publics privates = Some 0

-- no agent has expanded two entries of one joint state
abbrev pub ExpandsOnce : World → Type 0
ExpandsOnce w =
    (agent m n : ℕ) (a : IsExpandedAt w agent m) (b : IsExpandedAt w agent n)
    → joint w agent a.entry.key ≡ joint w agent b.entry.key → m ≡ n
