use Rattle.std.proofs.Common.{◌≡◌, ◌++◌, length}
use Rattle.std.specs.Vec.Iter.{into_iter_items, into_iter_len}
use Rattle.mp_steps.proofs.group.listed.Given as goal

abbrev pub invariant-loop-step : goal.invariant-loop-step
invariant-loop-step l = record {
  count : into_iter_len l.step-iterator ≡ length (into_iter_items l.step-iterator);
  made : l.list ++ into_iter_items l.step-iterator ≡ l.fn.steps.items;
}
