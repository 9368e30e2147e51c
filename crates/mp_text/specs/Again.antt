-- Logs whose traces are schedules.
use Rattle.std.specs.Prelude.{ℕ, ◌+◌, ◌<◌, ◌≤◌, ◌≢◌, List, [], ◌∷◌, ◌++◌, length, All, Option, Some, None}
use Rattle.mp_messages.specs.History.{agent_of, event_of}
use Rattle.mp_messages.specs.declared.history.Event.{Event}
use Rattle.mp_messages.specs.declared.history.Entry.{Entry}
use Rattle.mp_messages.specs.declared.history.Entry.TheVariants.{Act, Put, Took}
use Rattle.mp_text.specs.declared.schedule.EventLine.{EventLine}
use Rattle.mp_text.specs.Trace.{lines_if_event}

-- an agent of a team of so many
abbrev pub IsAgent : ℕ → ℕ → Type 0
IsAgent agents agent = (1 ≤ agent) × (agent ≤ agents)

-- an entry of a team of so many: its agents are of the team, the two of a message differ, and a
-- message that is put has bytes, at least one of them
abbrev pub IsOfTeam : ℕ → Entry → Type 0
IsOfTeam agents (Act agent kind) = IsAgent agents agent
IsOfTeam agents (Put from to bytes) =
    IsAgent agents from × IsAgent agents to × (from ≢ to)
    × (bytes ≢ []) × All (λ byte. byte < 256) bytes
IsOfTeam agents (Took by from bytes) = IsAgent agents by × IsAgent agents from × (by ≢ from)

-- an event with the number of its line, where there is one
abbrev pub numbered : ℕ → Option Event → List EventLine
numbered number None = []
numbered number (Some event) = record { event = event; line = number } ∷ []

-- the events of a log with the numbers of their lines in its trace, where the first line has this
-- number
abbrev pub numbered_events : ℕ → List Entry → List EventLine
numbered_events number [] = []
numbered_events number (entry ∷ later) =
    numbered number (event_of entry)
    ++ numbered_events
    (number + length (lines_if_event (agent_of entry) later (event_of entry))) later
