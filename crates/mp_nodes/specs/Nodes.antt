-- Nodes: an agent's machine, and what it did that is not signed yet. A worker serves some of a team's agents; its desk holds
-- their parties.
use Rattle.std.specs.Prelude.{◌≡◌, ℕ, zero, suc, ◌==◌, ◌&&◌, not, Bool, true, false, List, ◌++◌, length, slice_index_or, Option, Some, None, All}
use Rattle.std.specs.List.{list_all}
use Rattle.std.specs.Option.{option_map, option_map_or}
use Rattle.mp_task.specs.AgentTask.{AgentTask}
use Rattle.mp_messages.specs.declared.history.Entry.{Entry}
use Rattle.mp_machine.specs.AgentRecord.{AgentRecord, is_going, new_record}
use Rattle.mp_machine.specs.Machine.{AgentMachine}
use Rattle.mp_world.specs.Logs.{HasDone}
use Rattle.mp_world.specs.Values.{Values}
use Rattle.mp_stamps.specs.Lists.{IsAgentOf, entries}
use Rattle.mp_post_rule.specs.Queues.{IsSignable}
use Rattle.mp_post_rule.specs.Views.{party_at}
use Rattle.mp_post_rule.specs.declared.view.Party.{Party}
use Rattle.mp_post_rule.specs.declared.view.View.{View}

pub record SeenNode : Type 0 where
  pub machine : AgentMachine
  -- what the machine did since it last signed
  pub batch : List Entry

-- nodes have a place for each agent of a team, which is empty where another worker serves that agent
abbrev pub node_at : List (Option SeenNode) → ℕ → Option SeenNode
node_at nodes zero = None
node_at nodes (suc place) = slice_index_or nodes place None

-- an agent has done this from the start
abbrev pub HasDoneAll : Values → AgentTask → ℕ → List Entry → AgentRecord → Type 0
HasDoneAll value t limit log last = HasDone (value t) (new_record t (value t) limit) log last

module _ (value : Values) (agents agent : ℕ) where
  -- A node is that of an agent of a team of so many, which goes on: nobody halted it, no step stopped its machine, and the
  -- machine has done what its party has signed and then what is not signed yet.
  pub record IsNode (party : Party) (n : SeenNode) : Type 0 where
    pub of_team : IsAgentOf agents agent
    pub me : n.machine.done.task.me ≡ agent
    pub team : n.machine.done.task.agents ≡ agents
    pub unmarked : party.halted ≡ false
    pub free : n.machine.stopped ≡ None
    pub done : HasDoneAll value n.machine.done.task n.machine.done.limit (entries party.list ++ n.batch) n.machine.done
    pub batch : All (IsSignable agents agent) n.batch

  -- a desk holds the agent's party, which its node fits
  pub record IsNodeAt (v : View) (n : SeenNode) : Type 0 where
    pub party : Party
    pub held : party_at v agent ≡ Some party
    pub fits : IsNode party n

-- of an agent a worker has both a node and the party that it fits, or neither
abbrev pub IsPlaceAt : Values → ℕ → ℕ → View → Option SeenNode → Type 0
IsPlaceAt value agents agent v None = party_at v agent ≡ None
IsPlaceAt value agents agent v (Some n) = IsNodeAt value agents agent v n

-- The nodes of a worker are those of the parties of its desk, and each fits its party.
pub record AreServed
    (value : Values)
    (agents : ℕ)
    (nodes : List (Option SeenNode))
    (v : View)
    : Type 0 where
  pub many : length nodes ≡ agents
  pub each : (agent : ℕ) → IsPlaceAt value agents agent v (node_at nodes agent)

-- an agent has ended, and all that it did is signed
abbrev pub has_ended : SeenNode → Bool
has_ended n = not (is_going n.machine.done.ending) && (length n.batch == 0)

-- so have all
abbrev pub have_ended : List (Option SeenNode) → Bool
have_ended nodes = list_all (λ place. option_map_or has_ended place true) nodes

-- what an agent has to do: its task, and how many entries it may expand
pub record Orders : Type 0 where
  pub task : AgentTask
  pub limit : ℕ

abbrev pub orders : SeenNode → Orders
orders n = record { task = n.machine.done.task; limit = n.machine.done.limit }

-- the agents are those that they were, with the same tasks and limits
abbrev pub AreSameAgents : List (Option SeenNode) → List (Option SeenNode) → Type 0
AreSameAgents old new = (agent : ℕ) → option_map orders (node_at new agent) ≡ option_map orders (node_at old agent)
