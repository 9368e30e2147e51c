-- What the agents of a world have found: their entries, the states that they sent to each agent
-- that these concern, and the states under way (MAD-A*, Nissim and Brafman 2014).
use Rattle.std.specs.Prelude.{ℕ, List, Option, option_and_then, option_map}
use Rattle.std.specs.Prelude.{map, filter_map, flat_map, slice_get}
use Rattle.mp_task.specs.AgentTask.{AgentTask}
use Rattle.mp_messages.specs.Parts.{state_in}
use Rattle.mp_messages.specs.declared.message.State.{State}
use Rattle.mp_store.specs.declared.entry.Entry.{Entry}
use Rattle.mp_store.specs.Sent.{sent_entries}
use Rattle.mp_search.specs.AgentState.{AgentState}
use Rattle.mp_search.specs.Concern.{receivers}
use Rattle.mp_search.specs.Spelled.{message_of}
use Rattle.mp_machine.specs.AgentRecord.{AgentRecord}
use Rattle.mp_reach.specs.Found.{Entry as Seen, Found, Message as Sending}
use Rattle.mp_reach.specs.LeadsOn.{Known}
use Rattle.mp_world.specs.Joint.{joint, joint_told}
use Rattle.mp_world.specs.World.{World, agent_at, under_way}

-- the state that an agent reads in bytes
abbrev pub state_read : AgentTask → List ℕ → Option State
state_read t bytes = option_and_then state_in (message_of t.agents t.publics bytes)

module _ (w : World) where
  -- ---- entries

  -- an entry of an agent, as one of a joint state
  abbrev pub seen_entry : ℕ → Entry AgentState → Seen Known
  seen_entry agent e = record {
    state = record { agent = agent; state = joint w agent e.key };
    cost = e.g;
    estimate = e.h;
    mark = e.mark;
  }

  -- the entry of an agent and a number, if there is one
  abbrev pub entry_at : ℕ × ℕ → Option (Seen Known)
  entry_at (agent, number) =
      option_map (seen_entry agent)
      (option_and_then (λ r. slice_get r.search.kept.entries number) (agent_at w agent))

  -- ---- what was sent

  -- the state of an entry that was sent, as it is for an agent that it concerns
  abbrev pub sent_to : AgentRecord → Entry AgentState → ℕ → Sending Known
  sent_to r e receiver = record {
    state = record { agent = receiver; state = joint w r.task.me e.key };
    cost = e.g;
    estimate = e.h;
  }

  -- one for each agent that it concerns
  abbrev pub sent_of : AgentRecord → Entry AgentState → List (Sending Known)
  sent_of r e = map (sent_to r e) (receivers r.task e.key)

  -- all that an agent sent, and all that was sent
  abbrev pub sent_by : AgentRecord → List (Sending Known)
  sent_by r = flat_map (sent_of r) (sent_entries r.search.kept)

  abbrev pub all_sent : List (Sending Known)
  all_sent = flat_map sent_by w.agents

  -- ---- what is under way

  -- a state on its way to an agent
  abbrev pub on_its_way : AgentRecord → State → Sending Known
  on_its_way r m = record {
    state = record { agent = r.task.me; state = joint_told w m };
    cost = m.g;
    estimate = m.h;
  }

  -- the states under way from one agent to another, from one to all, and from all
  abbrev pub states_between : AgentRecord → AgentRecord → List (Sending Known)
  states_between s r =
      map (on_its_way r) (filter_map (state_read r.task) (under_way w s.task.me r.task.me))

  abbrev pub states_from : AgentRecord → List (Sending Known)
  states_from s = flat_map (states_between s) w.agents

  abbrev pub all_under_way : List (Sending Known)
  all_under_way = flat_map states_from w.agents

  -- ---- all

  -- what the agents have found; an entry's index is its agent and its number
  abbrev pub found_of : Found (ℕ × ℕ) Known
  found_of = record { entry = entry_at; sent = all_sent; under_way = all_under_way }
