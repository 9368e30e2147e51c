-- The index of the own actions of a task.
use Rattle.std.specs.Prelude.{◌≡◌, length}
use Rattle.std.specs.FinSet as set
use Rattle.mp_task.specs.AgentTask.{AgentTask}
use Rattle.mp_applicable.specs.declared.index.ActionIndex.{ActionIndex}
use Rattle.mp_applicable.specs.Listing.{AreListsOf}

pub record IsIndexOf (t : AgentTask) (index : ActionIndex) : Type 0 where
  pub lists : AreListsOf t index.lists
  pub none : index.none ≡ record { size = length t.acts; members = set.empty }
