-- What agents keep and send is never taken back.
use Rattle.std.specs.Prelude.{◌≡◌, ℕ, List, ◌++◌, slice_get, Some}
use Rattle.mp_store.specs.declared.entry.Entry.{Entry}
use Rattle.mp_store.specs.Record.{Record}
use Rattle.mp_search.specs.AgentState.{AgentState}

-- two entries are the same but for their marks
pub record IsAlike (e later : Entry AgentState) : Type 0 where
  pub key : later.key ≡ e.key
  pub g : later.g ≡ e.g
  pub h : later.h ≡ e.h
  pub origin : later.origin ≡ e.origin
  pub goal : later.goal ≡ e.goal

-- a list begins with another one
pub record BeginsWith {A : Type 0} (xs ys : List A) : Type 0 where
  pub more : List A
  pub is : ys ≡ xs ++ more

-- Each entry stays at its number, where its mark alone may change, and each sent number stays that
-- of its entry.
pub record HasGrown (old new : Record AgentState) : Type 0 where
  pub entries : (n : ℕ) (e : Entry AgentState) → slice_get old.entries n ≡ Some e
      → (later : Entry AgentState) × (slice_get new.entries n ≡ Some later) × IsAlike e later
  pub sent : BeginsWith old.sent new.sent
