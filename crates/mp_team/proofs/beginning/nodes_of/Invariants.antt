use Rattle.std.proofs.Common.{◌≡◌, ◌+◌, ◌++◌, length, map, take}
use Rattle.std.specs.List.{range_with_len}
use Rattle.std.specs.Vec.Iter.{into_iter_items, into_iter_len}
use Rattle.mp_team.specs.Machines.{first_places}
use Rattle.mp_team.proofs.beginning.nodes_of.Given as goal

abbrev pub invariant-loop-machine : goal.invariant-loop-machine
invariant-loop-machine g l = record {
  count : into_iter_len l.machine-iterator ≡ length (into_iter_items l.machine-iterator);
  at : l.at + length (into_iter_items l.machine-iterator) ≡ length l.fn.machines.items;
  many : length l.nodes ≡ length l.fn.machines.items;
  numbers : map (λ m. m.done.task.me) (into_iter_items l.machine-iterator)
      ≡ range_with_len (l.at + 1) (length (into_iter_items l.machine-iterator));
  made : take l.at l.nodes ++ first_places (into_iter_items l.machine-iterator) ≡ first_places l.fn.machines.items;
}
