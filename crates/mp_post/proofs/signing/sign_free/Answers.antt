use Rattle.std.proofs.Common.{sym, ap, subst, ◌∙◌}
use Rattle.mp_post_rule.specs.Table.{Holds}
use Rattle.mp_post.proofs.Batched.{passed}
use Rattle.mp_post.proofs.Halves.{grown, signed_turn}
use Rattle.mp_post.proofs.signing.sign_free.Goals as goal

pub release_turn-requires-clause-value : goal.release_turn-requires-clause-value
release_turn-requires-clause-value g c =
    let by = c.args.by in
    let w = c.sign_batch.new.seat.me.0 in
    let grew = passed c.grow.result (sym c.is_err.ensures.value ∙ c.if-is_err.false) c.grow.ensures.ok in
    let holds = signed_turn c.args.posts.now.shared.key by c.args.batch c.args.own.now.items c.args.kept c.args.seat.now.me.0 w
    c.requires.batch c.requires.list c.requires.turn c.sign_batch.ensures.view in (
      c.grow.new.kept,
      subst (λ k. Holds by k w) (ap (λ n. grown n c.args.batch c.args.kept) (sym c.requires.clock) ∙ sym grew) holds,
      c.sign_batch.ensures.value,
    )
