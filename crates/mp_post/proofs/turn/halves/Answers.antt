use Rattle.mp_post.proofs.Lists.{newer_list}
use Rattle.mp_post.proofs.turn.halves.Goals as goal

pub returns-in-Some-clause-list : goal.returns-in-Some-clause-list
returns-in-Some-clause-list g c = newer_list c.args.by c.sign.new.own.items c.receive.new.own.items
    c.args.seat.now.me.0 c.sign.new.seat.me.0 c.receive.new.seat.me.0 c.sign.ensures.list c.receive.ensures.list
