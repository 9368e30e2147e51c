-- What a pattern database was made of.
use Rattle.std.specs.Prelude.{◌≡◌, ℕ, ◌+◌, ◌<◌, List, All}
use Rattle.std.specs.FinSet as set
use Rattle.mp_sets.specs.Numbers.{Numbers}
use Rattle.mp_task.specs.AgentTask.{AgentTask}
use Rattle.mp_task.specs.Projected.{projected}
use Rattle.mp_pdb.specs.Masks.{Shows}
use Rattle.mp_pdb.specs.Pattern.{abstract_distance, abstract_state, pattern_of}
use Rattle.mp_estimates.specs.Lowering.{known, number_at}

-- a table has the distances of a task's projected problem for a pattern
pub record IsDatabaseOf (t : AgentTask) (publics : ℕ) (facts table : List ℕ) : Type 0 where
  pub same_publics : publics ≡ t.publics
  pub pattern : facts ≡ pattern_of (projected t)
  pub below : All (λ x. x < t.publics + t.privates) facts
  pub numbers :
      (s : Numbers) (mask : ℕ)
      → Shows facts (set.contains s) mask
      → known (number_at table mask)
      ≡ abstract_distance facts (projected t) (abstract_state facts s)
