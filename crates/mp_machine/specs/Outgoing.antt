-- What goes out in a step of an agent, and what is so after it.
use Rattle.std.specs.Prelude.{ℕ, ◌==◌, not, List, [], ◌∷◌, ◌++◌, map, filter}
use Rattle.std.specs.List.{range_with_len}
use Rattle.mp_task.specs.AgentTask.{AgentTask}
use Rattle.mp_messages.specs.declared.message.Message.{Message}
use Rattle.mp_messages.specs.Spelling.{spelling}
use Rattle.mp_machine.specs.declared.outgoing.Out.{Out}
use Rattle.mp_machine.specs.AgentRecord.{AgentRecord}

-- a message, and the agent that it goes to
pub record Outgoing : Type 0 where
  pub to : ℕ
  pub message : Message

-- a message as bytes
abbrev pub in_bytes : Outgoing → Out
in_bytes x = record { to = x.to; bytes = spelling x.message }

-- a message that goes to one agent
abbrev pub to_one : ℕ → Message → List Outgoing
to_one agent m = record { to = agent; message = m } ∷ []

-- the other agents of a team of so many, by rising number
abbrev pub others : ℕ → ℕ → List ℕ
others me agents = filter (λ agent. not (agent == me)) (range_with_len 1 agents)

-- a message that goes to each of some agents
abbrev pub to_each : List ℕ → Message → List Outgoing
to_each agents m = map (λ agent. record { to = agent; message = m }) agents

-- bytes that go to each of some agents
abbrev pub copies : List ℕ → List ℕ → List Out
copies agents bytes = map (λ agent. record { to = agent; bytes = bytes }) agents

-- a message that goes to all other agents of the team
abbrev pub to_others : AgentTask → Message → List Outgoing
to_others t m = to_each (others t.me t.agents) m

-- What a step leads to: the messages that go out, in this order, and the record after it.
pub record Step : Type 0 where
  pub out : List Outgoing
  pub after : AgentRecord

-- nothing goes out
abbrev pub without_messages : AgentRecord → Step
without_messages r = record { out = []; after = r }

-- messages that go out before those of a step
abbrev pub after_sending : List Outgoing → Step → Step
after_sending first s = record { out = first ++ s.out; after = s.after }
