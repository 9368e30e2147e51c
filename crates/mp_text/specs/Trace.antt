-- The text of a run: each event, and the messages that it put.
use Rattle.std.specs.Prelude.{ℕ, Bool, true, false, List, [], ◌∷◌, ◌++◌, codes, decimal, Option, Some, None}
use Rattle.std.specs.List.{filter_map, take_while}
use Rattle.hex.specs.Hex.{encode_lower}
use Rattle.mp_messages.specs.History.{agent_of, event_of, part}
use Rattle.mp_messages.specs.declared.history.Event.{Event}
use Rattle.mp_messages.specs.declared.history.Event.TheVariants as events
use Rattle.mp_messages.specs.declared.history.Entry.{Entry}
use Rattle.mp_messages.specs.declared.history.Entry.TheVariants.{Act, Put, Took}
use Rattle.mp_text.specs.Lines.{Text, text_of_lines}

-- `expand I`, `take I J` where I takes from J, or `start`
unfoldable pub event_line : Event → Text
event_line (events.Expand agent) = codes "expand " ++ decimal agent
event_line (events.Take by from) = codes "take " ++ (decimal by ++ (codes " " ++ decimal from))
event_line events.Start = codes "start"

-- what stands before the bytes of a message from I to J: two blanks, `I>J` and a blank
unfoldable pub message_head : ℕ → ℕ → Text
message_head from to = codes "  " ++ (decimal from ++ (codes ">" ++ (decimal to ++ codes " ")))

-- the line of a message: sender and receiver, and its bytes in lower-case hexadecimal
abbrev pub message_line : ℕ → ℕ → List ℕ → Text
message_line from to bytes = message_head from to ++ encode_lower bytes

-- the line of an entry that puts a message
abbrev pub put_line : Entry → Option Text
put_line (Act agent kind) = None
put_line (Put from to bytes) = Some (message_line from to bytes)
put_line (Took by from bytes) = None

-- an entry is no event, but puts a message
abbrev pub is_put : Entry → Bool
is_put (Act agent kind) = false
is_put (Put from to bytes) = true
is_put (Took by from bytes) = false

-- the messages that an agent puts before its next event, where this is what follows in the log
abbrev pub puts_before_event : ℕ → List Entry → List Entry
puts_before_event agent later = take_while is_put (part later agent)

-- the lines of an event of an agent: its own, and those of the messages that the agent puts before
-- its next event
abbrev pub lines_of_event : ℕ → List Entry → Event → List Text
lines_of_event agent later event =
    event_line event ∷ filter_map put_line (puts_before_event agent later)

-- the lines of an entry, where this is what follows in the log: none where it is no event
abbrev pub lines_if_event : ℕ → List Entry → Option Event → List Text
lines_if_event agent later None = []
lines_if_event agent later (Some event) = lines_of_event agent later event

-- the lines of each event, in the order of the log
abbrev pub trace_lines : List Entry → List Text
trace_lines [] = []
trace_lines (entry ∷ later) =
    lines_if_event (agent_of entry) later (event_of entry) ++ trace_lines later

abbrev pub trace_text : List Entry → Text
trace_text log = text_of_lines (trace_lines log)
