use Rattle.std.proofs.Common.{◌≡◌, length, All}
use Rattle.std.specs.Prelude.{IfSome}
use Rattle.std.specs.Vec.Iter.{into_iter_items, into_iter_len}
use Rattle.mp_post.specs.Desks.{IsDeskOf}
use Rattle.mp_post.proofs.ring.gathered.Given as goal

abbrev pub invariant-loop-finished : goal.invariant-loop-finished
invariant-loop-finished g l = record {
  count : into_iter_len l.finished-iterator ≡ length (into_iter_items l.finished-iterator);
  left : All (λ finished. IsDeskOf l.posts.shared.table_id l.posts.shared.key finished.desk) (into_iter_items l.finished-iterator);
  gathered : IfSome l.all (IsDeskOf l.posts.shared.table_id l.posts.shared.key);
}
