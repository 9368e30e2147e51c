use Rattle.std.proofs.Common.{length, take, sym, ap, subst, ◌∙◌}
use Rattle.std.specs.Prelude.{All}
use Rattle.std.proofs.lemmas.List.Elements.{All-take}
use Rattle.mp_post.specs.Growth.{HasQueue}
use Rattle.mp_post.proofs.Batched.{added_more, all_keep, back_again, failed, passed}
use Rattle.mp_post.proofs.growth.add_all.Goals as goal

pub add_mail-requires-clause-queue : goal.add_mail-requires-clause-queue
add_mail-requires-clause-queue c =
    let l = c.loop-at in
    let e = c.index-batch-at.result in
    let same = ap length l.invariant ∙ all_keep c.args.clock (take l.at c.args.batch.now) c.args.waiting.now in
    subst (λ n. HasQueue n e) (sym same) (subst (HasQueue (length c.args.waiting.now)) (sym c.index-batch-at.is) (c.requires.queues l.at e c.loop-at-test.true))

pub remove_all-requires : goal.remove_all-requires
remove_all-requires c =
    let l = c.loop-at in
    let stayed = failed c.add_mail.result (sym c.is_err.ensures.value ∙ c.if-is_err.true) c.add_mail.ensures.err in
    let same = ap length (stayed ∙ l.invariant) ∙ all_keep c.args.clock (take l.at c.args.batch.now) c.args.waiting.now in
    subst (λ n. All (HasQueue n) (take l.at c.args.batch.now)) (sym same)
    (All-take (HasQueue (length c.args.waiting.now)) l.at c.args.batch.now c.requires.queues)

pub returns-then-is_err-clause-err : goal.returns-then-is_err-clause-err
returns-then-is_err-clause-err c =
    let l = c.loop-at in
    let stayed = failed c.add_mail.result (sym c.is_err.ensures.value ∙ c.if-is_err.true) c.add_mail.ensures.err in
    back_again c.args.clock c.args.batch.now l.at c.args.waiting.now c.add_mail.new.waiting c.remove_all.new.waiting
    c.requires.queues (stayed ∙ l.invariant) c.remove_all.ensures

pub loop-at-preserved : goal.loop-at-preserved
loop-at-preserved c =
    let l = c.loop-at in
    let e = c.index-batch-at.result in
    let added = passed c.add_mail.result (sym c.is_err.ensures.value ∙ c.if-is_err.false) c.add_mail.ensures.ok in
    added_more c.args.clock c.args.batch.now l.at e c.args.waiting.now l.waiting c.add_mail.new.waiting
    c.loop-at-test.true c.index-batch-at.is added l.invariant
