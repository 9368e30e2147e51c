-- What an event changes in a world.
use Rattle.std.specs.Prelude.{◌≡◌, ◌≢◌, ℕ, ◌==◌, true, List, [], ◌++◌, map, filter, Some, Ok, if◌then◌else◌}
use Rattle.mp_messages.specs.declared.history.Event.{Event}
use Rattle.mp_machine.specs.declared.outgoing.Out.{Out}
use Rattle.mp_machine.specs.AgentRecord.{AgentRecord}
use Rattle.mp_machine.specs.LocalStep.{may}
use Rattle.mp_machine.specs.Outgoing.{Step}
use Rattle.mp_world.specs.Values.{Values}
use Rattle.mp_world.specs.World.{World, IsAgent, agent_at, under_way}
use Rattle.mp_world.specs.Events.{agent_of, has_message, local_of, local_step, sent_in, without_taken}

-- the messages for one agent among those that go out, in their order
abbrev pub sent_to : ℕ → List Out → List (List ℕ)
sent_to to out = map (λ x. x.bytes) (filter (λ x. x.to == to) out)

-- what goes out for an agent in a step of another one
abbrev pub sent_between : Event → Step → ℕ → ℕ → List (List ℕ)
sent_between event s from to = if from == agent_of event then sent_to to (sent_in s) else []

-- An event takes a world to another one: its agent may do it, there is the message that it takes, the agent takes that
-- step, and messages go out behind those that are under way. Nothing else changes.
pub record IsStepOf
    (value : Values)
    (w : World)
    (event : Event)
    (next : World)
    : Type 0 where
  pub agent : AgentRecord
  pub there : agent_at w (agent_of event) ≡ Some agent
  pub may : may agent (local_of event) ≡ true
  pub message : has_message w event ≡ true
  pub step : Step
  pub local : local_step value w event agent ≡ Ok step
  pub after : agent_at next (agent_of event) ≡ Some step.after
  pub others : (other : ℕ) → other ≢ agent_of event → agent_at next other ≡ agent_at w other
  pub mail :
      (from to : ℕ)
      → IsAgent w from
      → IsAgent w to
      → under_way next from to
      ≡ under_way (without_taken w event) from to ++ sent_between event step from to
