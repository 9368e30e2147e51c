use Rattle.std.proofs.Common.{◌≡◌, map, take}
use Rattle.std.specs.FinSet as set
use Rattle.mp_sets.specs.Numbers.{SizedSet}
use Rattle.mp_task.specs.AgentTask.{AgentTask}
use Rattle.mp_audit.proofs.state.private_starts.Given as goal

abbrev pub invariant-loop-task : goal.invariant-loop-task
invariant-loop-task l =
    let start : AgentTask → SizedSet = λ t. record { size = t.privates; members = set.from_list t.start_priv } in
    l.sets.items ≡ map start (take l.task-index l.tasks)
