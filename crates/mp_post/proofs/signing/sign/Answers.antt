use Rattle.std.proofs.Common.{◌-◌, ◌^◌}
use Rattle.mp_post.proofs.Halves.{list_signed, stamps_left, turned_list}
use Rattle.mp_post.proofs.signing.sign.Goals as goal

pub returns-in-Some-clause-list : goal.returns-in-Some-clause-list
returns-in-Some-clause-list g c = turned_list c.args.by c.args.by c.take_turn-kept.result c.args.own.now.items c.args.seat.now.me.0
    c.take_turn-kept.new.seat.me.0 c.give_back.new.seat.me c.requires.list c.take_turn-kept.ensures.view c.give_back.ensures.me

pub returns-in-None-clause-list : goal.returns-in-None-clause-list
returns-in-None-clause-list g c = list_signed c.args.by c.take_turn-kept.result c.args.own.now.items c.sign_free.new.own.items
    c.args.seat.now.me.0 c.take_turn-kept.new.seat.me.0 c.sign_free.new.seat.me c.requires.list
    c.args.batch c.sign_free.result c.take_turn-kept.ensures.view c.sign_free.ensures.view c.sign_free.ensures.own

pub returns-in-None-clause-stamps : goal.returns-in-None-clause-stamps
returns-in-None-clause-stamps g c = stamps_left (2 ^ 64 - 2) c.args.batch c.args.own.now.items c.sign_free.new.own.items c.sign_free.result _
    c.sign_free.ensures.stamps c.sign_free.ensures.own
