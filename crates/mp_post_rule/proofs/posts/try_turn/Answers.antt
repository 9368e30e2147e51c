use Rattle.std.proofs.Common.{arith, refl}
use Rattle.mp_post_rule.proofs.Laid.{agent_of_key}
use Rattle.mp_post_rule.proofs.Takes.{told, tries}
use Rattle.mp_post_rule.proofs.posts.try_turn.Goals as goal

pub compare_exchange-requires : goal.compare_exchange-requires
compare_exchange-requires c =
    let low = c.turn_word.ensures.1 in let high = c.requires.post in let words = c.requires.posts.words in (
      c.requires.table,
      omega arith,
      rw c.turn_word.ensures.0 (tries c.args.posts.now.shared.key c.args.posts.now.shared.table_id.slots c.args.post c.args.seat.now.id c.args.seat.now.me
          (agent_of_key c.args.posts.now.shared.key c.args.posts.now.shared.key c.args.post refl low high) c.requires.free.no_turn),
    )

pub returns-clause-told : goal.returns-clause-told
returns-clause-told c = told c.args.posts.now.shared.key c.args.posts.now.shared.table_id.slots c.args.post c.compare_exchange.result c.args.seat.now.me c.compare_exchange.new.seat.me
    c.turn_word.ensures.1 c.requires.posts.slots (rw c.turn_word.ensures.0 at c.compare_exchange.ensures.2)
