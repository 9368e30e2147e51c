-- Joint states: what the tags of states stand for, in a world that runs.
use Rattle.std.specs.Prelude.{ℕ, ◌==◌, List, [], map, if◌then◌else◌}
use Rattle.std.specs.List.{enumerate_from}
use Rattle.std.specs.Option.{option_map_or}
use Rattle.std.specs.FinSet as set
use Rattle.mp_sets.specs.declared.tag.Tag.{Tag}
use Rattle.mp_sets.specs.Numbers.{Numbers}
use Rattle.mp_task.specs.Plan.{JointState}
use Rattle.mp_messages.specs.declared.message.State.{State}
use Rattle.mp_tokens.specs.Order.{set_at}
use Rattle.mp_search.specs.AgentState.{AgentState}
use Rattle.mp_search.specs.Search.{tokens_given}
use Rattle.mp_world.specs.World.{World, agent_at}

-- the sets of an agent's private facts that have tokens, by their tokens
abbrev pub sets_of : World → ℕ → List Numbers
sets_of w agent = option_map_or (λ r. tokens_given r.task r.search.kept) (agent_at w agent) []

-- the private facts of an agent that the tag in its place stands for
abbrev pub told_by : World → ℕ × Tag → Numbers
told_by w (agent, tag) = set_at (sets_of w agent) tag.token

-- the private facts of each agent: the own ones of the agent that knows the state, and of each other agent those that its
-- tag stands for
abbrev pub private_facts : World → ℕ → Numbers → ℕ × Tag → Numbers
private_facts w me mine (agent, tag) = if agent == me then mine else told_by w (agent, tag)

-- the joint state that a state of an agent is
abbrev pub joint : World → ℕ → AgentState → JointState
joint w me s = record {
  publics = s.publics;
  privates = map (private_facts w me s.mine) (enumerate_from 1 s.tags);
}

-- the joint state that a message tells of: each agent's tag stands for its private facts
abbrev pub joint_told : World → State → JointState
joint_told w m = record {
  publics = set.from_list m.facts;
  privates = map (told_by w) (enumerate_from 1 m.tags);
}
