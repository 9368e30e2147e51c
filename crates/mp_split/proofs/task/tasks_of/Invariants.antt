use Rattle.mp_split.proofs.Basics.{◌≡◌, ◌++◌, length, map, All, into_iter_items, into_iter_len, IsOfTeam, task_with}
use Rattle.mp_split.proofs.task.tasks_of.Given as goal

abbrev pub invariant-loop-ground : goal.invariant-loop-ground
invariant-loop-ground l = record {
  count : into_iter_len l.ground-iterator ≡ length (into_iter_items l.ground-iterator);
  tasks : l.out.tasks ++ map (task_with l.table l.common) (into_iter_items l.ground-iterator)
      ≡ map (task_with l.table l.common) l.fn.grounds.items;
  steps : l.out.steps ++ map (λ g. g.steps) (into_iter_items l.ground-iterator) ≡ map (λ g. g.steps) l.fn.grounds.items;
  views : l.out.views ≡ l.fn.views;
  team : All (IsOfTeam l.table l.common) (into_iter_items l.ground-iterator);
}
