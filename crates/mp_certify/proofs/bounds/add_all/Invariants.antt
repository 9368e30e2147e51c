use Rattle.std.proofs.Common.{◌≡◌, ◌++◌, length}
use Rattle.std.specs.Vec.Iter.{into_iter_items, into_iter_len}
use Rattle.mp_certify.proofs.bounds.add_all.Given as goal

abbrev pub invariant-loop-bound : goal.invariant-loop-bound
invariant-loop-bound l = record {
  count : into_iter_len l.bound-iterator ≡ length (into_iter_items l.bound-iterator);
  made : l.bounds ++ into_iter_items l.bound-iterator ≡ l.fn.bounds ++ l.fn.made.items;
}
