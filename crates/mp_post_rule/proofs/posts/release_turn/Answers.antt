use Rattle.std.proofs.Common.{arith, refl, ap, ◌∙◌}
use Rattle.atomic_table.specs.Table.{rest}
use Rattle.mp_post_rule.proofs.Laid.{agent_of_key}
use Rattle.mp_post_rule.proofs.Releases.{releases}
use Rattle.mp_post_rule.specs.Views.{found}
use Rattle.mp_post_rule.proofs.posts.release_turn.Goals as goal

pub store-requires : goal.store-requires
store-requires c =
    let low = c.turn_word.ensures.1 in let high = c.requires.post in let words = c.requires.posts.words in let v = c.requires.value in (
      c.requires.table,
      omega arith,
      rw c.turn_word.ensures.0 (releases c.args.posts.now.shared.key c.args.posts.now.shared.table_id.slots c.args.post c.args.seat.now.id c.args.seat.now.me
          (found c.args.post v.0) v.2.home (agent_of_key c.args.posts.now.shared.key c.args.posts.now.shared.key c.args.post refl low high) v.1 refl v.2.has v.2.hand),
    )

pub returns-clause-me : goal.returns-clause-me
returns-clause-me c = let hand = c.requires.value.2.hand in let e = c.store.ensures.2 in
    λ i. (e.0 i, (e.1 ∙ ap rest hand) i)
