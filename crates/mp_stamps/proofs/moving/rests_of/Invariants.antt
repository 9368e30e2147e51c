use Rattle.std.proofs.Common.{◌≡◌, ◌++◌}
use Rattle.std.specs.Vec.Iter.{into_iter_items, into_iter_len}
use Rattle.std.specs.Prelude.{length}
use Rattle.mp_stamps.proofs.moving.rests_of.Given as goal

abbrev pub invariant-loop-list : goal.invariant-loop-list
invariant-loop-list l = record {
  all : l.rests.items ++ into_iter_items l.list-iterator ≡ l.fn.lists;
  count : into_iter_len l.list-iterator ≡ length (into_iter_items l.list-iterator);
}
