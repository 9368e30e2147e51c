-- What the agents of one world have found, and the verdict on it (MAD-A*, Nissim and Brafman 2014).
use Rattle.std.specs.Prelude.{ℕ, ◌+◌, List, length, map, filter_map, Option, Some, None}
use Rattle.mp_messages.specs.declared.message.Findings.{Findings}
use Rattle.mp_messages.specs.declared.message.Message.{Message}
use Rattle.mp_messages.specs.declared.message.Message.TheVariants.{State, Marker, Report, Pick, Trace, Length, Done}
use Rattle.mp_search.specs.Spelled.{message_of}
use Rattle.mp_snapshot.specs.declared.verdict.Verdict.{Verdict}
use Rattle.mp_snapshot.specs.Minima.{least_of}
use Rattle.mp_snapshot.specs.VerdictRule.{verdict_of}
use Rattle.mp_machine.specs.AgentRecord.{AgentRecord}
use Rattle.mp_machine.specs.Outgoing.{others}
use Rattle.mp_machine.specs.Snapshots.{findings}
use Rattle.mp_team_snapshots.specs.Messages.{messages}
use Rattle.mp_world.specs.World.{World}

-- the cost and the estimate of a state together; other messages have none
abbrev pub state_f : Message → Option ℕ
state_f (State m) = Some (m.g + m.h)
state_f (Marker number) = None
state_f (Report found) = None
state_f (Pick number) = None
state_f (Trace sent back) = None
state_f (Length plan) = None
state_f (Done kind) = None

-- messages that bytes spell, in a team of so many agents with so many public facts
abbrev pub messages_in : ℕ → ℕ → List (List ℕ) → List Message
messages_in agents publics bytes = filter_map (message_of agents publics) bytes

-- the least of the states among some messages
abbrev pub least_state : List Message → Option ℕ
least_state ms = least_of (map state_f ms)

-- the least of the states that are under way to an agent, from all other agents
abbrev pub least_under_way : World → AgentRecord → Option ℕ
least_under_way w r =
    least_of
    (map (λ from. least_state (messages r.task.publics w from r.task.me))
    (others r.task.me (length w.agents)))

-- what an agent has found in a world, with the states that are under way to it
abbrev pub findings_in : World → AgentRecord → Findings
findings_in w r = record (findings r) { under_way = least_under_way w r }

-- the verdict on what all agents have found in a world
abbrev pub verdict_in : World → Verdict
verdict_in w = verdict_of (map (findings_in w) w.agents)

-- findings of the snapshot of a number
abbrev pub numbered : ℕ → Findings → Findings
numbered number f = record f { number = number }
