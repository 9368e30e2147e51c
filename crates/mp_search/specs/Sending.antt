-- What is sent of a state that an own action led to (MAD-A*, Nissim and Brafman 2014).
use Rattle.std.specs.Prelude.{Bool, ℕ, ◌==◌, ◌&&◌, not, List, [], ◌∷◌, length, Option, Some, None, slice_get, if◌then◌else◌}
use Rattle.std.specs.Option.{option_map_or}
use Rattle.mp_sets.specs.Numbers.{listed}
use Rattle.mp_task.specs.declared.act.Act.{Act}
use Rattle.mp_task.specs.AgentTask.{AgentTask}
use Rattle.mp_task.specs.Met.{is_met}
use Rattle.mp_messages.specs.declared.message.State.{State}
use Rattle.mp_tokens.specs.Order.{place}
use Rattle.mp_store.specs.declared.entry.Entry.{Entry}
use Rattle.mp_store.specs.Record.{Record}
use Rattle.mp_store.specs.Minima.{best}
use Rattle.mp_store.specs.Sent.{mark_sent}
use Rattle.mp_search.specs.declared.answer.Sending.{Sending}
use Rattle.mp_search.specs.AgentState.{AgentState, same_state, with_tag}
use Rattle.mp_search.specs.Concern.{is_visible, receivers}
use Rattle.mp_search.specs.Search.{tokens_given}

-- The message of an entry's state that is sent under a number. The record has that sending already, so that the own
-- set has a token: its place among the sets that have one.
unfoldable pub message_of_entry : AgentTask → Record AgentState → ℕ → Entry AgentState → State
message_of_entry t r number e = record {
  sent = number;
  g = e.g;
  h = e.h;
  facts = listed (record { size = t.publics; members = e.key.publics });
  tags = with_tag e.key.tags t.me (record {
    token = place (tokens_given t r) e.key.mine;
    met = is_met t e.key.mine;
  });
}

-- one state goes out to the agents that it concerns, or none where no number was given
abbrev pub sending_of : AgentTask → AgentState → Entry AgentState → Option ℕ × Record AgentState → List Sending × Record AgentState
sending_of t s e (None, r) = ([], r)
sending_of t s e (Some number, r) = (record { state = message_of_entry t r number e; to = receivers t s } ∷ [], r)

-- The best entry of a state is sent, if it has one, unless that state was sent at that cost or less.
unfoldable pub sent_entry_of : AgentTask → AgentState → Option ℕ → Record AgentState → List Sending × Record AgentState
sent_entry_of t s None r = ([], r)
sent_entry_of t s (Some n) r =
    option_map_or (λ e. sending_of t s e (mark_sent same_state n r)) (slice_get r.entries n) ([], r)

abbrev pub sent_best : AgentTask → AgentState → Record AgentState → List Sending × Record AgentState
sent_best t s r = sent_entry_of t s (best same_state s r) r

-- A state that an own action led to is due to be sent where others may see what the action did and the state concerns
-- another agent.
abbrev pub is_due : AgentTask → Act → AgentState → AgentState → Bool
is_due t act s reached = is_visible t act s reached && not (length (receivers t reached) == 0)

unfoldable pub sent_if_due : AgentTask → Act → AgentState → AgentState → Record AgentState → List Sending × Record AgentState
sent_if_due t act s reached r = if is_due t act s reached then sent_best t reached r else ([], r)
