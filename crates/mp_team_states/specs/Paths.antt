-- How agents reached the states of their entries: by own actions from the initial state, and over
-- states that others sent (MAD-A*, Nissim and Brafman 2014).
use Rattle.std.specs.Prelude.{◌≡◌, ℕ, ◌<◌, ◌+◌, List, [], ◌∷◌, ◌++◌, slice_get, Some, IsSomeAnd}
use Rattle.mp_runs.specs.System.{state_after}
use Rattle.mp_task.specs.AgentTask.{AgentTask}
use Rattle.mp_task.specs.Plan.{TaskStep, joint_start, task_cost, team_system}
use Rattle.mp_messages.specs.declared.message.State.{State}
use Rattle.mp_store.specs.declared.entry.Entry.{Entry}
use Rattle.mp_store.specs.declared.entry.Origin.TheVariants.{Root, Own, From}
use Rattle.mp_store.specs.Sent.{sent_entry}
use Rattle.mp_search.specs.AgentState.{AgentState}
use Rattle.mp_world.specs.World.{World, agent_at}
use Rattle.mp_world.specs.Joint.{joint, joint_told}

-- an agent has an entry of a number
abbrev pub IsEntryAt : World → ℕ → ℕ → Entry AgentState → Type 0
IsEntryAt w agent number e =
    IsSomeAnd (agent_at w agent) (λ r. slice_get r.search.kept.entries number ≡ Some e)

-- a sent number of an agent is that of an entry
abbrev pub IsSentAt : World → ℕ → ℕ → ℕ → Type 0
IsSentAt w agent sent number =
    IsSomeAnd (agent_at w agent) (λ r. sent_entry sent r.search.kept ≡ Some number)

-- The path to an agent's entry, from origin to origin: none to the initial state, an own action
-- behind the path to the entry that it led from, and the path to the entry whose state another
-- agent sent.
pub data IsPath (w : World) : ℕ → ℕ → List TaskStep → Type 0 where
  at_root :
      (agent number : ℕ) (e : Entry AgentState)
      → IsEntryAt w agent number e → e.origin ≡ Root → IsPath w agent number []
  by_action :
      (agent number : ℕ) (e : Entry AgentState) (action parent : ℕ) (steps : List TaskStep)
      → IsEntryAt w agent number e → e.origin ≡ Own action parent
      → IsPath w agent parent steps
      → IsPath w agent number (steps ++ record { agent = agent; action = action } ∷ [])
  by_message :
      (agent number : ℕ) (e : Entry AgentState) (sender sent there : ℕ) (steps : List TaskStep)
      → IsEntryAt w agent number e → e.origin ≡ From sender sent → IsSentAt w sender sent there
      → IsPath w sender there steps
      → IsPath w agent number steps

-- Over how many messages an agent's entry was reached. An entry that another agent's one led to
-- over a message is over one message more, and an own action leads from an earlier entry, so that
-- each walk back along origins ends.
pub data IsOver (w : World) : ℕ → ℕ → ℕ → Type 0 where
  at_start :
      (agent number : ℕ) (e : Entry AgentState)
      → IsEntryAt w agent number e → e.origin ≡ Root → IsOver w agent number 0
  by_own :
      (agent number : ℕ) (e : Entry AgentState) (action parent messages : ℕ)
      → IsEntryAt w agent number e → e.origin ≡ Own action parent → parent < number
      → IsOver w agent parent messages
      → IsOver w agent number messages
  over_one :
      (agent number : ℕ) (e : Entry AgentState) (sender sent there messages : ℕ)
      → IsEntryAt w agent number e → e.origin ≡ From sender sent → IsSentAt w sender sent there
      → IsOver w sender there messages
      → IsOver w agent number (messages + 1)

-- The path to an entry applies from the joint start, ends in the joint state of the entry, and
-- costs what the entry does.
pub record IsReached
    (tasks : List AgentTask)
    (w : World)
    (agent number : ℕ)
    (e : Entry AgentState)
    : Type 0 where
  pub steps : List TaskStep
  pub path : IsPath w agent number steps
  pub leads : state_after (team_system tasks) (joint_start tasks) steps ≡ Some (joint w agent e.key)
  pub cost : task_cost tasks steps ≡ e.g

-- all entries of all agents are reached
abbrev pub AreReached : List AgentTask → World → Type 0
AreReached tasks w =
    (agent number : ℕ) (e : Entry AgentState) → IsEntryAt w agent number e
    → IsReached tasks w agent number e

-- A message of a state: the path to the entry that was sent ends in the joint state that the
-- message tells of, and costs what the message says.
pub record IsToldRightly
    (tasks : List AgentTask)
    (w : World)
    (sender : ℕ)
    (m : State)
    : Type 0 where
  pub number : ℕ
  pub steps : List TaskStep
  pub given : IsSentAt w sender m.sent number
  pub path : IsPath w sender number steps
  pub leads : state_after (team_system tasks) (joint_start tasks) steps ≡ Some (joint_told w m)
  pub cost : task_cost tasks steps ≡ m.g
