use Rattle.std.proofs.Common.{◌≡◌, length}
use Rattle.std.specs.Vec.Iter.{into_iter_items, into_iter_len}
use Rattle.mp_plans.specs.Slots.{no_steps, placed}
use Rattle.mp_plans.proofs.order.placed_steps.Given as goal

-- the steps that are left, placed, make the whole
abbrev pub invariant-loop-timed : goal.invariant-loop-timed
invariant-loop-timed l = record {
  count : into_iter_len l.timed-iterator ≡ length (into_iter_items l.timed-iterator);
  made : placed (into_iter_items l.timed-iterator) l.slots.items ≡ placed l.fn.steps (no_steps l.most);
}
