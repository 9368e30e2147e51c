use Rattle.mp_post.proofs.Told.{found_last, holds_still, others_stay, own_entries, turns_rose}
use Rattle.mp_post.proofs.turn.both_halves.Goals as goal

pub returns-clause-turns : goal.returns-clause-turns
returns-clause-turns g c = turns_rose c.args.by c.args.batch c.args.from c.args.seat.now.me.0 c.halves.new.seat.me.0 c.halves.result c.halves.ensures.turned

pub returns-clause-last : goal.returns-clause-last
returns-clause-last g c = found_last c.args.by c.args.batch c.args.from c.args.seat.now.me.0 c.halves.new.seat.me.0 c.halves.result c.halves.ensures.turned

pub returns-clause-entries : goal.returns-clause-entries
returns-clause-entries g c =
    let has = c.requires.list in
    own_entries c.args.by c.args.batch c.args.from c.args.seat.now.me.0 c.halves.new.seat.me.0 c.halves.result (has.0, has.1) c.halves.ensures.turned

pub returns-clause-others : goal.returns-clause-others
returns-clause-others g c = others_stay c.args.by c.args.own.now.items c.halves.new.own.items c.args.seat.now.me.0 c.halves.new.seat.me.0
    c.requires.list c.halves.ensures.list

pub returns-clause-holds : goal.returns-clause-holds
returns-clause-holds g c = holds_still c.args.by c.args.own.now.items c.halves.new.own.items c.args.seat.now.me.0 c.halves.new.seat.me.0
    c.requires.list c.halves.ensures.list
