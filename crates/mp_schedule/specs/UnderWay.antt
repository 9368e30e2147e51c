-- The messages under way between the agents of a team, and how they change.
use Rattle.std.specs.Prelude.{ℕ, ◌-◌, List, [], slice_index_or, slice_set}
use Rattle.mp_machine.specs.AgentRecord.{AgentRecord}
use Rattle.mp_world.specs.World.{World}

-- for each sender a list with one list for each receiver: the messages as bytes, the oldest first
abbrev pub Mail : Type 0
Mail = List (List (List (List ℕ)))

-- the messages from one agent to another
abbrev pub between : Mail → ℕ → ℕ → List (List ℕ)
between mail from to = slice_index_or (slice_index_or mail (from - 1) []) (to - 1) []

-- with other messages from one agent to another
abbrev pub with_between : Mail → ℕ → ℕ → List (List ℕ) → Mail
with_between mail from to messages =
    slice_set mail (from - 1) (slice_set (slice_index_or mail (from - 1) []) (to - 1) messages)

-- the world of agents with the messages between them
abbrev pub world_with : List AgentRecord → Mail → World
world_with agents mail = record { agents = agents; mail = mail }
