use Rattle.mp_post.proofs.Halves.{list_received}
use Rattle.mp_post.proofs.receiving.receive.Goals as goal

pub returns-clause-list : goal.returns-clause-list
returns-clause-list g c = list_received c.args.by c.take_turn-kept.result c.args.own.now.items c.hand_over.new.own.items
    c.args.seat.now.me.0 c.take_turn-kept.new.seat.me.0 c.hand_over.new.seat.me c.requires.list
    c.args.from c.hand_over.result c.take_turn-kept.ensures.view c.hand_over.ensures.view c.hand_over.ensures.own
