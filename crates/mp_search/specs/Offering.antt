-- States that are offered to a search. A heuristic's value is a parameter: none where no plan leads on from a state.
use Rattle.std.specs.Prelude.{ℕ, ◌+◌, ◌^◌, nat_lt, Option, Some, None, if◌then◌else◌}
use Rattle.mp_sets.specs.Numbers.{Numbers}
use Rattle.mp_task.specs.AgentTask.{AgentTask}
use Rattle.mp_store.specs.declared.entry.Offer.{Offer}
use Rattle.mp_store.specs.declared.entry.Offer.TheVariants as offers
use Rattle.mp_store.specs.declared.entry.Origin.{Origin}
use Rattle.mp_store.specs.declared.entry.Origin.TheVariants.{Root}
use Rattle.mp_store.specs.Record.{Record, empty, new_entry, offered}
use Rattle.mp_search.specs.declared.answer.Received.{Received}
use Rattle.mp_search.specs.declared.answer.Received.TheVariants.{Kept, Dead, Worse}
use Rattle.mp_search.specs.AgentState.{AgentState, is_goal_state, same_state, start_state}
use Rattle.mp_search.specs.Search.{SearchRecord}

-- what became of a state that the keep rule decided on
abbrev pub reception_of : Offer → Received
reception_of (offers.Kept entry) = Kept entry
reception_of offers.Worse = Worse

-- the answer of the keep rule, and the record after it
abbrev pub by_keep_rule : Offer × Record AgentState → Received × Record AgentState
by_keep_rule (answer, r) = (reception_of answer, r)

-- the best entry of a state after an offer of it, by that before
abbrev pub best_after : Option ℕ → Received → Option ℕ
best_after found (Kept entry) = Some entry
best_after found Dead = found
best_after found Worse = found

-- A state is offered at a cost and with an estimate. The keep rule decides, where both together are below 2 ^ 60.
unfoldable pub offered_with : AgentTask → AgentState → ℕ → ℕ → Origin → Record AgentState → Received × Record AgentState
offered_with t s g h origin r =
    if nat_lt (g + h) (2 ^ 60)
    then by_keep_rule (offered same_state (new_entry s g h origin (is_goal_state t s)) r)
    else (Worse, r)

-- The same with an estimate or none: a state without one is dead.
abbrev pub offered_at : AgentTask → AgentState → ℕ → Option ℕ → Origin → Record AgentState → Received × Record AgentState
offered_at t s g None origin r = (Dead, r)
offered_at t s g (Some h) origin r = offered_with t s g h origin r

module _ (t : AgentTask) (value : Numbers → Numbers → Option ℕ) where
  -- what the heuristic says of a state
  abbrev pub own_value : AgentState → Option ℕ
  own_value s = value s.publics s.mine

  -- the search at the start, which knows the initial state
  abbrev pub start_record : SearchRecord
  start_record = record {
    kept = (offered_at t (start_state t) 0 (own_value (start_state t)) Root empty).1;
    expansions = 0;
  }
