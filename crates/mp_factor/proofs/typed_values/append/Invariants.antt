use Rattle.mp_factor.proofs.Basics.{◌≡◌, ◌++◌, length}
use Rattle.std.specs.Vec.Iter.{into_iter_items, into_iter_len}
use Rattle.mp_factor.proofs.typed_values.append.Given as goal

abbrev pub invariant-loop-item : goal.invariant-loop-item
invariant-loop-item g l = record {
  count : into_iter_len l.item-iterator ≡ length (into_iter_items l.item-iterator);
  made : l.items ++ into_iter_items l.item-iterator ≡ l.fn.items ++ l.fn.more;
}
