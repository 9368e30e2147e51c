-- Keys of a store, and the states that they stand for.
use Rattle.std.specs.Prelude.{◌≡◌, ℕ, Bool, ◌<◌, List, length, All, Option, None, Some, IfSome, option_map, slice_get}
use Rattle.std.specs.Coded.{Coded, coded_ℕ}
use Rattle.std.specs.FinSet as set
use Rattle.mp_sets.specs.Numbers.{Numbers, listed}
use Rattle.mp_task.specs.AgentTask.{AgentTask}
use Rattle.mp_task.specs.Met.{is_met}
use Rattle.mp_messages.specs.declared.message.State.{State}
use Rattle.mp_tokens.specs.Order.{AreDifferent, place, set_at, with_set}
use Rattle.mp_store.specs.declared.key.Key.{Key}
use Rattle.mp_store.specs.declared.entry.Entry.{Entry}
use Rattle.mp_store.specs.Named.{named}
use Rattle.mp_store.specs.Record.{Record, new_entry}
use Rattle.mp_store.specs.Sent.{mark_sent}
use Rattle.mp_search.specs.declared.reached.Reached.{Reached}
use Rattle.mp_search.specs.declared.states.Arrival.{Arrival}
use Rattle.mp_search.specs.declared.states.Shown.{Shown}
use Rattle.mp_search.specs.declared.states.States.TheInside.{Inside}
use Rattle.mp_search.specs.AgentState.{AgentState, same_state, with_tag}

-- sets of numbers are told apart
abbrev pub coded_numbers : Coded Numbers
coded_numbers = set.code coded_ℕ

-- the state of a key, whose own set is that of its index
abbrev pub state_of_key : List Numbers → Key → AgentState
state_of_key sets key = record {
  publics = key.publics.members;
  mine = set_at sets key.mine;
  tags = key.tags;
}

-- a key's public facts have a size, and its index is below a number of sets
pub record IsKeyOf (publics sets : ℕ) (key : Key) : Type 0 where
  pub size : key.publics.size ≡ publics
  pub index : key.mine < sets

-- states that are kept, with the sizes of their sets
pub record KeptStates : Type 0 where
  pub publics : ℕ
  pub privates : ℕ
  pub kept : Record AgentState
  -- the own sets that have tokens, by their tokens
  pub used : List Numbers

abbrev pub kept_states : Inside → KeptStates
kept_states s = record {
  publics = s.publics;
  privates = s.tokens.size;
  kept = named (state_of_key s.tokens.sets) s.store;
  used = s.tokens.used;
}

pub record AreStates (s : Inside) : Type 0 where
  pub different : AreDifferent s.tokens.sets
  pub keyed : All (λ e. IsKeyOf s.publics (length s.tokens.sets) e.key) s.store.entries

-- a state that was reached
abbrev pub reached_state : Reached → AgentState
reached_state x = record {
  publics = x.key.publics.members;
  mine = x.mine.members;
  tags = x.key.tags;
}

-- its sets have the sizes of those that are kept
pub record HasSizes (publics privates : ℕ) (x : Reached) : Type 0 where
  pub publics_size : x.key.publics.size ≡ publics
  pub privates_size : x.mine.size ≡ privates

-- the entry of a state that was reached so
abbrev pub entry_of : AgentState → Arrival → Bool → Entry AgentState
entry_of s arrival goal = new_entry s arrival.g arrival.h arrival.origin goal

-- an entry as a caller sees it
pub record IsShown (x : Shown) (e : Entry AgentState) : Type 0 where
  pub publics : x.publics.members ≡ e.key.publics
  pub mine : x.mine.members ≡ e.key.mine
  pub tags : x.tags.now ≡ e.key.tags
  pub g : x.g ≡ e.g
  pub h : x.h ≡ e.h

-- the sets that have tokens, once the state of an entry is sent under a number, or is not sent
abbrev pub used_after : Option (ℕ × ℕ) → Entry AgentState → List Numbers → List Numbers
used_after None e used = used
used_after (Some x) e used = with_set used e.key.mine

-- The state of an entry is noted as sent: with a sent number and the token of its own set, or with none.
pub record IsSent (entry : ℕ) (answer : Option (ℕ × ℕ)) (old new : KeptStates) : Type 0 where
  pub marked : (option_map (λ x. x.0) answer, new.kept) ≡ mark_sent same_state entry old.kept
  pub used : (e : Entry AgentState) → slice_get old.kept.entries entry ≡ Some e
      → new.used ≡ used_after answer e old.used
  pub token : (e : Entry AgentState) → slice_get old.kept.entries entry ≡ Some e
      → IfSome answer (λ x. x.1 ≡ place new.used e.key.mine)

-- the message of an entry under a sent number, with a token for the own set
pub record IsMessageOf (t : AgentTask) (number own_token : ℕ) (x : Shown) (m : State) : Type 0 where
  pub sent : m.sent ≡ number
  pub g : m.g ≡ x.g
  pub h : m.h ≡ x.h
  pub facts : m.facts ≡ listed x.publics
  pub tags : m.tags ≡ with_tag x.tags.now t.me (record { token = own_token; met = is_met t x.mine.members })
