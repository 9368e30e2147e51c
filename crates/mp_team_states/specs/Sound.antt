-- What is so of the states that the agents of a team keep and send: their tags stand for private
-- sets to which the agents gave them, and their met bytes say whether private goals hold in those
-- (MAD-A*, Nissim and Brafman 2014).
use Rattle.std.specs.Prelude.{◌≡◌, ◌≢◌, ◌≤◌, ◌<◌, ◌*◌, ◌-◌, ℕ, List, length, slice_index_or, Some, All, Contains, IfSome, IsSomeAnd}
use Rattle.mp_sets.specs.declared.tag.Tag.{Tag}
use Rattle.mp_sets.specs.Numbers.{AllBelow}
use Rattle.mp_task.specs.AgentTask.{AgentTask}
use Rattle.mp_task.specs.Met.{is_met}
use Rattle.mp_task.specs.Plan.{task_of}
use Rattle.mp_messages.specs.declared.message.Message.{Message}
use Rattle.mp_messages.specs.declared.message.State.{State}
use Rattle.mp_messages.specs.Spelling.{IfState, spelling}
use Rattle.mp_store.specs.Laws.{IsSound}
use Rattle.mp_search.specs.AgentState.{AgentState, no_tag, same_state}
use Rattle.mp_search.specs.Receipt.{IsStateFor}
use Rattle.mp_machine.specs.AgentRecord.{AgentRecord}
use Rattle.mp_machine.specs.MemberFields.{EntryFits}
use Rattle.mp_team_states.specs.Sent.{IsSentIn}
use Rattle.mp_world.specs.Team.{most_expansions}
use Rattle.mp_world.specs.World.{World, agent_at, under_way}
use Rattle.mp_world.specs.Joint.{sets_of, told_by}

-- the tag in the place of an agent; agents are numbered from 1
abbrev pub tag_of : List Tag → ℕ → Tag
tag_of tags agent = slice_index_or tags (agent - 1) no_tag

-- An agent told by a tag which of its private facts hold: it gave the tag's token to a set, and the
-- met byte says whether its private goals hold in that set.
pub record IsTold (w : World) (agent : ℕ) (tag : Tag) : Type 0 where
  pub given : tag.token < length (sets_of w agent)
  pub byte : IfSome (agent_at w agent) (λ r. tag.met ≡ is_met r.task (told_by w (agent, tag)))

-- each agent told its own tag in a list
abbrev pub AreTold : World → List Tag → Type 0
AreTold w tags = (agent : ℕ) → 1 ≤ agent → agent ≤ length tags → IsTold w agent (tag_of tags agent)

-- A state as an agent knows it: it has facts that there are, a tag for each agent of the team, and
-- each other agent told its own. The tag in the agent's own place tells nothing.
pub record IsStateOf (w : World) (t : AgentTask) (s : AgentState) : Type 0 where
  pub publics : AllBelow t.publics s.publics
  pub mine : AllBelow t.privates s.mine
  pub number : length s.tags ≡ t.agents
  pub own : tag_of s.tags t.me ≡ no_tag
  pub others : (agent : ℕ) → 1 ≤ agent → agent ≤ t.agents → agent ≢ t.me
      → IsTold w agent (tag_of s.tags agent)

-- an agent sent it
abbrev pub IsSentState : World → AgentTask → State → Type 0
IsSentState w t m = IsSomeAnd (agent_at w t.me) (λ r. IsSentIn t r.search.kept m)

-- What an agent has done so far fits its task: it expanded no more entries than it may, its record
-- is one that the rules of a search lead to, and each entry has a state as the agent knows it and
-- fits messages.
pub record IsSoundAgent (w : World) (t : AgentTask) (r : AgentRecord) : Type 0 where
  pub task : r.task ≡ t
  pub limit : r.limit ≤ most_expansions
  pub within : r.search.expansions ≤ r.limit
  pub sent : length r.search.kept.sent ≤ 200000 * r.search.expansions
  pub kept : IsSound same_state r.search.kept
  pub fits : All EntryFits r.search.kept.entries
  pub states : All (λ e. IsStateOf w t e.key) r.search.kept.entries

-- the state of a message fits the team, and an agent sent it
pub record IsSoundState (w : World) (t : AgentTask) (m : State) : Type 0 where
  pub fits : IsStateFor t m
  pub sent : IsSentState w t m

-- bytes under way from an agent spell a message, and where that is a state, it fits the team and
-- the agent sent it
pub record IsSoundMessage (w : World) (t : AgentTask) (bytes : List ℕ) : Type 0 where
  pub message : Message
  pub is : bytes ≡ spelling message
  pub state : IfState (IsSoundState w t) message

-- What the agents of a team keep and what is under way between them.
pub record AreStatesSound (tasks : List AgentTask) (w : World) : Type 0 where
  pub agents : (agent : ℕ) (t : AgentTask) → task_of tasks agent ≡ Some t
      → IsSomeAnd (agent_at w agent) (IsSoundAgent w t)
  pub mail : (from to : ℕ) (t u : AgentTask) (bytes : List ℕ)
      → task_of tasks from ≡ Some t → task_of tasks to ≡ Some u
      → Contains (under_way w from to) bytes → IsSoundMessage w t bytes
