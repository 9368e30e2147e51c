use Rattle.std.proofs.Common.{◌≡◌, ◌++◌, length}
use Rattle.std.specs.Vec.Iter.{into_iter_items, into_iter_len}
use Rattle.mp_solve.specs.Machines.{new_machines}
use Rattle.mp_solve.proofs.machines.machines_of.Given as goal

abbrev pub invariant-loop-task : goal.invariant-loop-task
invariant-loop-task g l = record {
  count : into_iter_len l.task-iterator ≡ length (into_iter_items l.task-iterator);
  made : l.machines.items ++ new_machines g.H.Heuristic.value l.limit (into_iter_items l.task-iterator)
      ≡ new_machines g.H.Heuristic.value l.limit l.fn.tasks;
}
