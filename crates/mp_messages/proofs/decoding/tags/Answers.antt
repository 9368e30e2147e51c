use Rattle.std.proofs.Common.{sym}
use Rattle.mp_messages.specs.Reading.{tags_at}
use Rattle.mp_messages.proofs.Loops.{tags_go_on, tags_stop, tags_end}
use Rattle.mp_messages.proofs.decoding.tags.Goals as goal

pub returns-in_default : goal.returns-in_default
returns-in_default c =
    tags_stop c.loop.tags c.args.count c.loop.counter c.loop.rest.now (tags_at c.args.count c.args.bytes.now) c.loop-test.true (sym c.in_default.ensures) c.loop.invariant

pub loop-preserved : goal.loop-preserved
loop-preserved c =
    rw c.in_ok-push.ensures.ok (tags_go_on c.loop.tags c.args.count c.loop.counter c.loop.rest.now c.in-Some.tag c.in-Some.after.now (tags_at c.args.count c.args.bytes.now) c.loop-test.true (sym c.in-Some.ensures) c.loop.invariant)

pub returns : goal.returns
returns c = tags_end c.loop.tags c.args.count c.loop.counter c.loop.rest.now (tags_at c.args.count c.args.bytes.now) c.loop-test.false c.loop.invariant
