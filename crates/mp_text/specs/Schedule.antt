-- Schedules as texts: lines of events and of messages, as a trace has them.
use Rattle.std.specs.Prelude.{◌≡◌, ⊤, ℕ, ◌+◌, ◌%◌, ◌==◌, Bool, ◌&&◌, ◌||◌, not, nat_lt, nat_le, List, [], ◌∷◌, ◌++◌, length, drop, map, codes, Option, Some, None, Result, Ok, Err, if◌then◌else◌}
use Rattle.std.specs.List.{filter, find, flat_map, list_all, list_any, range_with_len, starts_with}
use Rattle.std.specs.Str.{bytes_eq}
use Rattle.mp_messages.specs.declared.history.Event.{Event}
use Rattle.mp_messages.specs.declared.history.Event.TheVariants.{Expand, Take, Start}
use Rattle.mp_text.specs.declared.schedule.EventLine.{EventLine}
use Rattle.mp_text.specs.declared.schedule.LineRefusal.{LineRefusal}
use Rattle.mp_text.specs.declared.schedule.LineRefusal.TheVariants.{Line, OutOfMemory}
use Rattle.mp_text.specs.Lines.{Text, lines_of}
use Rattle.mp_text.specs.Trace.{event_line, message_head}

-- the agents of a team of so many
abbrev pub team : ℕ → List ℕ
team agents = range_with_len 1 agents

-- the other agents of the team
abbrev pub others : ℕ → ℕ → List ℕ
others agents one = filter (λ other. not (other == one)) (team agents)

-- two agents of the team that differ
abbrev pub pairs : ℕ → List (ℕ × ℕ)
pairs agents = flat_map (λ one. map (λ other. (one, other)) (others agents one)) (team agents)

-- all events that a team of so many can have
abbrev pub events_of : ℕ → List Event
events_of agents =
    Start ∷ (map (λ agent. Expand agent) (team agents)
    ++ map (λ pair. Take pair.0 pair.1) (pairs agents))

-- the event of the team whose line this is, where there is one
abbrev pub event_in : ℕ → Text → Option Event
event_in agents line = find (λ event. bytes_eq (event_line event) line) (events_of agents)

-- a digit, or a letter from `a` to `f`
abbrev pub is_hexadecimal_digit : ℕ → Bool
is_hexadecimal_digit byte =
    (nat_le 48 byte && nat_le byte 57) || (nat_le 97 byte && nat_le byte 102)

-- bytes in lower-case hexadecimal, at least one of them, each with two digits
abbrev pub is_hexadecimal : Text → Bool
is_hexadecimal text =
    nat_lt 0 (length text) && ((length text % 2 == 0) && list_all is_hexadecimal_digit text)

-- a text begins so, and goes on with bytes in hexadecimal
abbrev pub begins_bytes : Text → Text → Bool
begins_bytes line head = starts_with ◌==◌ line head && is_hexadecimal (drop (length head) line)

-- the line of a message between two agents of the team
abbrev pub is_message : ℕ → Text → Bool
is_message agents line =
    list_any (λ pair. begins_bytes line (message_head pair.0 pair.1)) (pairs agents)

-- the line that ends a schedule
abbrev pub is_end : Text → Bool
is_end line = bytes_eq line (codes "answer") || bytes_eq line (codes "unfinished")

-- one event more at the front, where what follows is not refused
abbrev pub with_event : Event → ℕ → Result (List EventLine) ℕ → Result (List EventLine) ℕ
with_event event number (Ok lines) = Ok (record { event = event; line = number } ∷ lines)
with_event event number (Err refused) = Err refused

-- a line that may be one of an event, otherwise one of a message, and otherwise is refused
abbrev pub line_then
    : Option Event → Bool → ℕ → Result (List EventLine) ℕ → Result (List EventLine) ℕ
line_then (Some event) is_message number rest = with_event event number rest
line_then None is_message number rest = if is_message then rest else Err number

-- The events of these lines with the numbers of their lines, up to a line that ends the schedule,
-- or the number of the first line before that which is neither of an event nor of a message. The
-- lines are numbered from this number on.
abbrev pub schedule_of : ℕ → ℕ → List Text → Result (List EventLine) ℕ
schedule_of agents number [] = Ok []
schedule_of agents number (line ∷ lines) =
    if is_end line then Ok []
    else line_then (event_in agents line) (is_message agents line) number
    (schedule_of agents (number + 1) lines)

-- the schedule that a text has, with its lines numbered from 1
abbrev pub schedule_in : ℕ → Text → Result (List EventLine) ℕ
schedule_in agents text = schedule_of agents 1 (lines_of text)

-- A refused line is the first one that is neither of an event nor of a message. Memory may run out
-- at any text.
abbrev pub Refuses : LineRefusal → Result (List EventLine) ℕ → Type 0
Refuses (Line number) read = read ≡ Err number
Refuses OutOfMemory read = ⊤
