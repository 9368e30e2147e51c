use Rattle.std.proofs.Common.{length, ap, arith, ◌∙◌}
use Rattle.mp_post.specs.Growth.{without_all}
use Rattle.mp_post.proofs.Batched.{removed_more, without_keeps}
use Rattle.mp_post.proofs.growth.remove_all.Goals as goal

pub loop-left-preserved : goal.loop-left-preserved
loop-left-preserved c =
    let l = c.loop-left in
    let some = c.loop-left-test.true in
    let in_list = l.invariant.within in
    let e = c.index-entries-left.result in
    record {
      within = omega arith;
      queues = ap length c.remove_mail.ensures ∙ (without_keeps e l.waiting ∙ l.invariant.queues);
      removed = removed_more c.args.entries.now l.left e l.waiting c.remove_mail.new.waiting (without_all c.args.entries.now c.args.waiting.now)
          some in_list c.index-entries-left.is c.remove_mail.ensures l.invariant.removed;
    }
