use Rattle.std.proofs.Common.{◌≡◌, drop}
use Rattle.std.specs.List.{flat_map}
use Rattle.mp_audit.specs.Failures.{low_start, low_starts}
use Rattle.mp_audit.proofs.auditing.first_low_start.Given as goal

abbrev pub invariant-loop-task : goal.invariant-loop-task
invariant-loop-task l =
    flat_map (low_start l.known.tasks.now l.known.bounds.now.entries l.cost) (drop l.task-index l.tasks)
    ≡ low_starts l.known.tasks.now l.known.bounds.now.entries l.cost
