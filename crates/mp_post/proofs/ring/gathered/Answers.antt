use Rattle.std.proofs.Common.{arith, length, ap}
use Rattle.std.specs.Vec.Iter.{into_iter_items}
use Rattle.mp_post.specs.Desks.{IsDeskOf}
use Rattle.mp_post.specs.declared.ring.Finished.{Finished}
use Rattle.mp_post.proofs.Each.{all_others}
use Rattle.mp_post.proofs.ring.gathered.Goals as goal

pub loop-finished-preserved : goal.loop-finished-preserved
loop-finished-preserved g c =
    let posts = c.args.posts.now.shared in
    let before = c.loop-finished in
    let step = c.in-Some.ensures.steps in
    record {
      count = let a = before.invariant.count in let b = step.1 in let d = ap length step.0 in omega arith;
      left = all_others (into_iter_items before.finished-iterator) (into_iter_items c.next.new.self) c.in-Some.finished
          (λ (f : Finished). IsDeskOf posts.table_id posts.key f.desk) step.0 before.invariant.left;
      gathered = c.both.ensures;
    }
