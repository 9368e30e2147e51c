-- What a step of an expansion leads to.
use Rattle.std.specs.Prelude.{◌≡◌, ◌<◌, ◌≤◌, ◌^◌, List, [], Option, length}
use Rattle.std.specs.List.{cons_option}
use Rattle.mp_task.specs.AgentTask.{AgentTask}
use Rattle.mp_applicable.specs.Far.{IsFarIndexOf}
use Rattle.mp_applicable.specs.Index.{IsIndexOf}
use Rattle.mp_store.specs.Record.{Record}
use Rattle.mp_search.specs.declared.answer.Sending.{Sending}
use Rattle.mp_search.specs.declared.context.Context.{Context}
use Rattle.mp_search.specs.declared.expansion.Expanding.{Expanding}
use Rattle.mp_search.specs.AgentState.{AgentState}
use Rattle.mp_search.specs.Expansion.{Parent}
use Rattle.mp_search.specs.Search.{tokens_given}
use Rattle.mp_search.specs.StateKeys.{HasSizes, KeptStates, reached_state}

-- what was worked out of the task that a search looks at
pub record IsContext (c : Context) : Type 0 where
  pub actions : IsIndexOf c.task c.actions
  pub far : IsFarIndexOf c.task c.far

-- the states that an agent keeps in its task
pub record AreStatesOf (t : AgentTask) (k : KeptStates) : Type 0 where
  pub publics : k.publics ≡ t.publics
  pub privates : k.privates ≡ t.privates
  pub used : k.used ≡ tokens_given t k.kept

-- A state was sent or none was, and the record is another, as a definition says.
pub record HasSent
    (t : AgentTask)
    (done : List Sending × Record AgentState)
    (old new : KeptStates)
    (answer : Option Sending)
    : Type 0 where
  pub sent : cons_option answer [] ≡ done.0
  pub kept : new.kept ≡ done.1
  pub states : AreStatesOf t new
  pub longer : length old.kept.entries ≤ length new.kept.entries

-- an entry that is expanded
abbrev pub parent_of : Expanding → Parent
parent_of x = record { number = x.number; state = reached_state x.state; g = x.g }

-- it is one of the entries that are kept
pub record IsExpanding (t : AgentTask) (k : KeptStates) (x : Expanding) : Type 0 where
  pub inside : x.number < length k.kept.entries
  pub bounded : x.g < 2 ^ 60
  pub sizes : HasSizes t.publics t.privates x.state
