use Rattle.std.proofs.Common.{◌≡◌, ◌+◌, ◌<◌, All}
use Rattle.std.specs.FinSet as set
use Rattle.mp_task.specs.AgentTask.{AgentTask}
use Rattle.mp_task.specs.Projected.{projected_state}
use Rattle.mp_pdb.specs.Masks.{ShowsFirst}
use Rattle.mp_pdb.proofs.pdb.mask_of.Given as goal

abbrev pub invariant-loop-place : goal.invariant-loop-place
invariant-loop-place l =
    (t : AgentTask)
    → t.publics ≡ l.split
    → All (λ x. x < t.publics + t.privates) l.facts
    → ShowsFirst l.place l.facts (set.contains (projected_state t l.publics.members l.privates.members)) l.mask
