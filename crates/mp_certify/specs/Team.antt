-- Machines of a team that has run, and what is so of the states that they keep.
use Rattle.std.specs.Prelude.{◌≡◌, ℕ, ◌+◌, ◌-◌, ◌≤◌, List, length, All, Some, slice_get}
use Rattle.std.specs.Option.{option_map_or}
use Rattle.mp_task.specs.AgentTask.{AgentTask}
use Rattle.mp_task.specs.Limits.{AllLess}
use Rattle.mp_store.specs.declared.entry.Entry.{Entry}
use Rattle.mp_search.specs.AgentState.{AgentState}
use Rattle.mp_machine.specs.Machine.{AgentMachine}
use Rattle.mp_schedule.specs.Machines.{IsFree, tasks_of}
use Rattle.mp_audit.specs.declared.certificate.Bound.{Bound}
use Rattle.mp_audit.specs.Fits.{publics_of, PrivatesFit}

-- how many private facts the agent of a number has
abbrev pub privates_of : List AgentMachine → ℕ → ℕ
privates_of machines agent =
    option_map_or (λ m. m.done.task.privates) (slice_get machines (agent - 1)) 0

-- The machines of the agents of a team, agent 1 first. None has been stopped, all have the same public facts, and the states
-- that they keep have a tag for each agent.
pub record AreOfTeam (machines : List AgentMachine) : Type 0 where
  pub at_most : length machines ≤ 16
  pub free : All IsFree machines
  pub numbered :
      (k : ℕ) (m : AgentMachine) → slice_get machines k ≡ Some m → m.done.task.me ≡ k + 1
  pub publics :
      (k : ℕ) (m : AgentMachine) → slice_get machines k ≡ Some m
      → m.done.task.publics ≡ publics_of (tasks_of machines)
  pub tags :
      (k n : ℕ) (m : AgentMachine) (e : Entry AgentState) → slice_get machines k ≡ Some m
      → slice_get m.done.search.kept.entries n ≡ Some e
      → length e.key.tags ≡ length machines

-- the agent of an entry is one of a team, and its facts are facts of the team
pub record IsOfTeam (tasks : List AgentTask) (b : Bound) : Type 0 where
  pub agent_number : b.agent ≤ length tasks
  pub publics_fit : AllLess (publics_of tasks) b.publics
  pub privates_fit : PrivatesFit tasks b.privates
