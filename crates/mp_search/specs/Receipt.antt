-- How a state from another agent is received (MAD-A*, Nissim and Brafman 2014).
use Rattle.std.specs.Prelude.{ℕ, ◌+◌, ◌-◌, max, nat_lt, not, Bool, List, length, option_and_then, option_map, Option, Some, None, Result, Ok, Err, slice_index_or, if◌then◌else◌}
use Rattle.std.specs.Option.{option_map_or}
use Rattle.std.specs.FinSet as set
use Rattle.mp_sets.specs.declared.tag.Tag.{Tag}
use Rattle.mp_sets.specs.Numbers.{Numbers}
use Rattle.mp_task.specs.AgentTask.{AgentTask}
use Rattle.mp_task.specs.Met.{is_met}
use Rattle.mp_messages.specs.declared.message.State.{State}
use Rattle.mp_messages.specs.declared.message.Message.TheVariants as kinds
use Rattle.mp_messages.specs.Parts.{state_in}
use Rattle.mp_messages.specs.Spelling.{Fits}
use Rattle.mp_tokens.specs.Order.{set_at}
use Rattle.mp_store.specs.declared.entry.Origin.TheVariants.{From}
use Rattle.mp_store.specs.Record.{Record}
use Rattle.mp_search.specs.declared.answer.Received.{Received}
use Rattle.mp_search.specs.declared.answer.ReceiveRefusal.{ReceiveRefusal}
use Rattle.mp_search.specs.declared.answer.ReceiveRefusal.TheVariants.{UnknownToken, WrongByte}
use Rattle.mp_search.specs.AgentState.{AgentState, no_tag, with_tag}
use Rattle.mp_search.specs.Offering.{offered_at, own_value}
use Rattle.mp_search.specs.Search.{SearchRecord, tokens_given}
use Rattle.mp_search.specs.Spelled.{message_of}

-- a message of a state that a team with a task's number of agents and of public facts may send
abbrev pub IsStateFor : AgentTask → State → Type 0
IsStateFor t m = Fits t.agents t.publics (kinds.State m)

-- the tag of a message in the receiver's own place
abbrev pub own_tag : AgentTask → State → Tag
own_tag t m = slice_index_or m.tags (t.me - 1) no_tag

-- the receiver gave that token to a set
abbrev pub is_token_given : AgentTask → Record AgentState → State → Bool
is_token_given t r m = nat_lt (own_tag t m).token (length (tokens_given t r))

-- the own set that the token stands for
abbrev pub own_set : AgentTask → Record AgentState → State → Numbers
own_set t r m = set_at (tokens_given t r) (own_tag t m).token

-- the met byte of the tag is that of the set
abbrev pub is_byte_right : AgentTask → Record AgentState → State → Bool
is_byte_right t r m = if (own_tag t m).met then is_met t (own_set t r m) else not (is_met t (own_set t r m))

-- a state that came in a message, as the receiver knows it
abbrev pub state_of : AgentTask → Record AgentState → State → AgentState
state_of t r m = record {
  publics = set.from_list m.facts;
  mine = own_set t r m;
  tags = with_tag m.tags t.me no_tag;
}

-- a state was received, and nothing was expanded
abbrev pub answered : ℕ → Received × Record AgentState → Result Received ReceiveRefusal × SearchRecord
answered expansions (answer, r) = (Ok answer, record { kept = r; expansions = expansions })

-- what a receipt answers, with the sum of the state's cost and estimate where it was received
abbrev pub with_sum :
    ℕ → Result Received ReceiveRefusal × SearchRecord → Result (Option (Received × ℕ)) ReceiveRefusal × SearchRecord
with_sum f (Ok answer, r) = (Ok (Some (answer, f)), r)
with_sum f (Err e, r) = (Err e, r)

module _ (t : AgentTask) (value : Numbers → Numbers → Option ℕ) where
  -- the greater of the sender's estimate and the own one, or none where there is no own one
  abbrev pub greater_value : ℕ → AgentState → Option ℕ
  greater_value h s = option_map (max h) (own_value t value s)

  -- A state from another agent is offered at its cost.
  abbrev pub offered_by : ℕ → State → AgentState → Record AgentState → Received × Record AgentState
  offered_by from m s r = offered_at t s m.g (greater_value m.h s) (From from m.sent) r

  abbrev pub received : ℕ → State → Record AgentState → Received × Record AgentState
  received from m r = offered_by from m (state_of t r m) r

  -- What a search does when a state comes, with memory enough: it refuses one whose own tag can't be the receiver's.
  unfoldable pub receipt : ℕ → State → SearchRecord → Result Received ReceiveRefusal × SearchRecord
  receipt from m r =
      if not (is_token_given t r.kept m) then (Err UnknownToken, r)
      else if not (is_byte_right t r.kept m) then (Err WrongByte, r)
      else answered r.expansions (received from m r.kept)

  -- What it does when bytes come that may spell a state: nothing where they spell none.
  unfoldable pub receipt_of_bytes : ℕ → List ℕ → SearchRecord → Result (Option (Received × ℕ)) ReceiveRefusal × SearchRecord
  receipt_of_bytes from bytes r =
      option_map_or (λ m. with_sum (m.g + m.h) (receipt from m r)) (option_and_then state_in (message_of t.agents t.publics bytes))
      (Ok None, r)
