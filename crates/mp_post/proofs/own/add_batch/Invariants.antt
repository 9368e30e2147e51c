use Rattle.std.proofs.Common.{◌≡◌, ◌≤◌, ◌<◌, ◌+◌, ◌-◌, ◌^◌, ◌++◌, length}
use Rattle.std.specs.Vec.{vec_capacity, vec_len}
use Rattle.std.specs.Vec.Iter.{into_iter_items, into_iter_len}
use Rattle.mp_post_rule.specs.Queues.{stamped_after}
use Rattle.mp_post.proofs.own.add_batch.Given as goal

abbrev pub invariant-loop-entry : goal.invariant-loop-entry
invariant-loop-entry l = record {
  count : into_iter_len l.entry-iterator ≡ length (into_iter_items l.entry-iterator);
  items : l.own.items ++ stamped_after l.stamp (into_iter_items l.entry-iterator)
      ≡ l.fn.own.items ++ stamped_after l.clock l.fn.batch;
  stamps : l.stamp + length (into_iter_items l.entry-iterator) ≤ 2 ^ 64 - 2;
  room : vec_len l.own + length (into_iter_items l.entry-iterator) < vec_capacity l.own;
}
