-- States of entries as keys of a set.
use Rattle.std.specs.Prelude.{◌≡◌, ℕ, Bool, List}
use Rattle.std.specs.List.{list_any}
use Rattle.mp_store.specs.declared.entry.Entry.{Entry}
use Rattle.mp_search.specs.AgentState.{AgentState, same_state}
use Rattle.mp_certify.specs.declared.key.StateKey.{StateKey}
use Rattle.mp_certify.specs.contracts.key.StateKeyPartialEq.TheImpl as keys

-- whether two keys are equal, as `==` answers
abbrev pub same_key : StateKey → StateKey → Bool
same_key = keys.ghosts.eq

-- the state of a key
abbrev pub state_of_key : StateKey → AgentState
state_of_key k =
    record { publics = k.publics.members; mine = k.mine.members; tags = k.tags.now }

-- its sets have these sizes
pub record HasKeySizes (publics privates : ℕ) (k : StateKey) : Type 0 where
  pub publics_size : k.publics.size ≡ publics
  pub privates_size : k.mine.size ≡ privates

-- Keys whose sets have these sizes stand for the states of some entries.
abbrev pub AreKeysOf : ℕ → ℕ → List (Entry AgentState) → List StateKey → Type 0
AreKeysOf publics privates entries keys =
    (k : StateKey) → HasKeySizes publics privates k
    → list_any (same_key k) keys ≡ list_any (λ e. same_state e.key (state_of_key k)) entries
