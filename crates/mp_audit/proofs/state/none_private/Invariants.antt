use Rattle.std.proofs.Common.{◌≡◌, map, take}
use Rattle.mp_audit.specs.States.{no_privates}
use Rattle.mp_audit.proofs.state.none_private.Given as goal

abbrev pub invariant-loop-task : goal.invariant-loop-task
invariant-loop-task l = l.sets.items ≡ map no_privates (take l.task-index l.tasks)
