-- Histories of a network: what each agent did, what went between them, and in which order.
-- After Chandy and Lamport (1985): between two agents messages come in the order in which they were sent.
use Rattle.std.specs.Prelude.{◌≡◌, ℕ, ◌==◌, ◌&&◌, List, ◌∷◌, ◌++◌, length, drop, filter, slice_get, Option, Some, None, if◌then◌else◌}
use Rattle.std.specs.List.{filter_map}
use Rattle.mp_messages.specs.declared.history.Kind.TheVariants as acts
use Rattle.mp_messages.specs.declared.history.Event.{Event}
use Rattle.mp_messages.specs.declared.history.Event.TheVariants as events
use Rattle.mp_messages.specs.declared.history.Entry.{Entry}
use Rattle.mp_messages.specs.declared.history.Entry.TheVariants.{Act, Put, Took}

-- the agent whose entry it is
abbrev pub agent_of : Entry → ℕ
agent_of (Act agent kind) = agent
agent_of (Put from to bytes) = from
agent_of (Took by from bytes) = by

-- an agent's part of a log: its own entries
abbrev pub part : List Entry → ℕ → List Entry
part log agent = filter (λ e. agent_of e == agent) log

-- the message of an entry that puts one from one agent to another
abbrev pub put_between : ℕ → ℕ → Entry → Option (List ℕ)
put_between from to (Act agent kind) = None
put_between from to (Put sender receiver bytes) = if (sender == from) && (receiver == to) then Some bytes else None
put_between from to (Took by sender bytes) = None

-- the message of an entry that takes one
abbrev pub taken_between : ℕ → ℕ → Entry → Option (List ℕ)
taken_between from to (Act agent kind) = None
taken_between from to (Put sender receiver bytes) = None
taken_between from to (Took by sender bytes) = if (sender == from) && (by == to) then Some bytes else None

-- the messages from one agent to another, oldest first: all that were put, all that were taken, and
-- those that were put and not taken
abbrev pub sent : ℕ → ℕ → List Entry → List (List ℕ)
sent from to log = filter_map (put_between from to) log

abbrev pub received : ℕ → ℕ → List Entry → List (List ℕ)
received from to log = filter_map (taken_between from to) log

abbrev pub under_way : ℕ → ℕ → List Entry → List (List ℕ)
under_way from to log = drop (length (received from to log)) (sent from to log)

-- an entry may follow a log: a message that is taken is the oldest one under way
abbrev pub MayFollow : List Entry → Entry → Type 0
MayFollow log (Act agent kind) = Unit {0}
MayFollow log (Put from to bytes) = Unit {0}
MayFollow log (Took by from bytes) = slice_get (under_way from by log) 0 ≡ Some bytes

-- a legal history: each entry may follow those before it
abbrev pub IsHistory : List Entry → Type 0
IsHistory log = (before after : List Entry) (e : Entry) → log ≡ before ++ e ∷ after → MayFollow before e

-- what an entry is as an event
abbrev pub event_of : Entry → Option Event
event_of (Act agent acts.Expand) = Some (events.Expand agent)
event_of (Act agent acts.Start) = Some events.Start
event_of (Put from to bytes) = None
event_of (Took by from bytes) = Some (events.Take by from)

-- the schedule of a log: its acts and receipts
abbrev pub schedule : List Entry → List Event
schedule log = filter_map event_of log
