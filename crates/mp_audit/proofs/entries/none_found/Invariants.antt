use Rattle.std.proofs.Common.{◌≡◌, length, map, take}
use Rattle.mp_task.specs.AgentTask.{AgentTask}
use Rattle.mp_audit.specs.States.{sizes_of}
use Rattle.mp_audit.proofs.entries.none_found.Given as goal

abbrev pub invariant-loop-task : goal.invariant-loop-task
invariant-loop-task l = sizes_of l.found.items ≡ map (λ (t : AgentTask). length t.acts) (take l.task-index l.tasks)
