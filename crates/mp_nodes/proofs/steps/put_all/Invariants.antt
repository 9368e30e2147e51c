use Rattle.std.proofs.Common.{◌≡◌, ◌++◌, length, map}
use Rattle.std.specs.Vec.Iter.{into_iter_items, into_iter_len}
use Rattle.mp_world.specs.Logs.{put_by}
use Rattle.mp_nodes.proofs.steps.put_all.Given as goal

abbrev pub invariant-loop-out : goal.invariant-loop-out
invariant-loop-out l = record {
  count : into_iter_len l.out-iterator ≡ length (into_iter_items l.out-iterator);
  made : l.batch ++ map (put_by l.me) (into_iter_items l.out-iterator) ≡ l.fn.batch ++ map (put_by l.me) l.fn.outs;
}
