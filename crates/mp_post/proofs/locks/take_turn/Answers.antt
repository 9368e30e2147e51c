use Rattle.mp_post.proofs.Taken.{has_value, named, queues, view}
use Rattle.mp_post.proofs.locks.take_turn.Goals as goal

pub lift-requires-clause-value : goal.lift-requires-clause-value
lift-requires-clause-value g c = has_value c.args.post c.args.posts.now.shared.key c.args.seat.now.me c.wait_for_turn.new.seat.me
    c.wait_for_turn.ensures.taken c.requires.free

pub returns-clause-view : goal.returns-clause-view
returns-clause-view g c = view c.args.post c.args.posts.now.shared.key c.args.seat.now.me c.wait_for_turn.new.seat.me
    c.wait_for_turn.ensures.taken c.requires.free c.lift.result c.lift.ensures.value c.lift.new.seat.me c.lift.ensures.view

pub returns-clause-queues : goal.returns-clause-queues
returns-clause-queues g c = queues c.args.post c.args.posts.now.shared.key c.args.seat.now.me c.wait_for_turn.new.seat.me
    c.wait_for_turn.ensures.taken c.requires.free c.lift.result c.lift.ensures.value

pub returns-clause-named : goal.returns-clause-named
returns-clause-named g c = named c.args.post c.args.posts.now.shared.key c.args.seat.now.me c.wait_for_turn.new.seat.me
    c.wait_for_turn.ensures.taken c.requires.free c.lift.result c.lift.ensures.value
