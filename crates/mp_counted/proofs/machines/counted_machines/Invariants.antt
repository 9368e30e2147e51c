use Rattle.std.proofs.Common.{◌≡◌, ◌++◌, length, map}
use Rattle.std.specs.Vec.Iter.{into_iter_items, into_iter_len}
use Rattle.mp_schedule.specs.Machines.{new_machine}
use Rattle.mp_counted.proofs.machines.counted_machines.Given as goal

abbrev pub invariant-loop-task : goal.invariant-loop-task
invariant-loop-task g l = record {
  count : into_iter_len l.task-iterator ≡ length (into_iter_items l.task-iterator);
  made : l.machines.items ++ map (new_machine g.H.Heuristic.value l.limit) (into_iter_items l.task-iterator)
      ≡ map (new_machine g.H.Heuristic.value l.limit) l.fn.tasks;
}
