use Rattle.std.proofs.Common.{◌≡◌, ◌++◌, length}
use Rattle.std.specs.Option.{option_map}
use Rattle.std.specs.Vec.Iter.{into_iter_items, into_iter_len}
use Rattle.mp_plans.specs.Plan.{all_there}
use Rattle.mp_plans.proofs.order.all_steps.Given as goal

-- the steps so far and those of the places that are left make the whole
abbrev pub invariant-loop-slot : goal.invariant-loop-slot
invariant-loop-slot l = record {
  count : into_iter_len l.slot-iterator ≡ length (into_iter_items l.slot-iterator);
  made : option_map (λ later. l.plan ++ later) (all_there (into_iter_items l.slot-iterator)) ≡ all_there l.fn.slots.items;
}
