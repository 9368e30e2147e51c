-- The messages that are under way, as messages.
use Rattle.std.specs.Prelude.{ℕ, List, length, Option, Some, None}
use Rattle.std.specs.List.{filter_map}
use Rattle.mp_messages.specs.declared.message.EndKind.{EndKind}
use Rattle.mp_messages.specs.declared.message.Findings.{Findings}
use Rattle.mp_messages.specs.declared.message.Message.{Message}
use Rattle.mp_messages.specs.declared.message.Message.TheVariants.{State, Marker, Report, Pick, Trace, Length, Done}
use Rattle.mp_search.specs.Spelled.{message_of}
use Rattle.mp_world.specs.World.{World, under_way}

-- the messages from one agent to another, the oldest first, in a team with so many public facts
abbrev pub messages : ℕ → World → ℕ → ℕ → List Message
messages publics w from to = filter_map (message_of (length w.agents) publics) (under_way w from to)

-- the number of a marker, the findings of a report, and the kind of an end
abbrev pub marker_of : Message → Option ℕ
marker_of (State s) = None
marker_of (Marker number) = Some number
marker_of (Report found) = None
marker_of (Pick number) = None
marker_of (Trace sent back) = None
marker_of (Length plan) = None
marker_of (Done kind) = None

abbrev pub report_of : Message → Option Findings
report_of (State s) = None
report_of (Marker number) = None
report_of (Report found) = Some found
report_of (Pick number) = None
report_of (Trace sent back) = None
report_of (Length plan) = None
report_of (Done kind) = None

abbrev pub end_of : Message → Option EndKind
end_of (State s) = None
end_of (Marker number) = None
end_of (Report found) = None
end_of (Pick number) = None
end_of (Trace sent back) = None
end_of (Length plan) = None
end_of (Done kind) = Some kind

-- the markers, the reports and the ends among them
abbrev pub markers : ℕ → World → ℕ → ℕ → List ℕ
markers publics w from to = filter_map marker_of (messages publics w from to)

abbrev pub reports : ℕ → World → ℕ → ℕ → List Findings
reports publics w from to = filter_map report_of (messages publics w from to)

abbrev pub ends : ℕ → World → ℕ → ℕ → List EndKind
ends publics w from to = filter_map end_of (messages publics w from to)
