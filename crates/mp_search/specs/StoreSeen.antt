-- The store of a search, and the record that contracts see.
use Rattle.std.specs.Prelude.{◌≡◌, List}
use Rattle.mp_sets.specs.Numbers.{Numbers}
use Rattle.mp_store.specs.declared.key.Key.{Key}
use Rattle.mp_store.specs.Named.{named}
use Rattle.mp_store.specs.Record.{Record}
use Rattle.mp_search.specs.AgentState.{AgentState}
use Rattle.mp_search.specs.StateKeys.{state_of_key}

-- A store has the entries of a record, and keys with indices of some list of sets in the place of the sets.
pub record HasEntriesOf (store : Record Key) (kept : Record AgentState) : Type 0 where
  pub sets : List Numbers
  pub is : named (state_of_key sets) store ≡ kept
