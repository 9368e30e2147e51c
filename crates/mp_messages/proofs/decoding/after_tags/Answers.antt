use Rattle.std.proofs.Common.{sym}
use Rattle.mp_messages.specs.Reading.{rest_of, tags_at}
use Rattle.mp_messages.proofs.Loops.{tags_pass, tags_fail, tags_done}
use Rattle.mp_messages.proofs.decoding.after_tags.Goals as goal

pub returns-in_default : goal.returns-in_default
returns-in_default c =
    tags_fail c.args.count c.loop.counter c.loop.rest.now (rest_of (tags_at c.args.count c.args.bytes.now)) c.loop-test.true (sym c.in_default.ensures) c.loop.invariant

pub loop-preserved : goal.loop-preserved
loop-preserved c =
    tags_pass c.args.count c.loop.counter c.loop.rest.now c.in-Some.field-0-0 c.in-Some.after.now (rest_of (tags_at c.args.count c.args.bytes.now)) c.loop-test.true (sym c.in-Some.ensures) c.loop.invariant

pub returns : goal.returns
returns c =
    tags_done c.args.count c.loop.counter c.loop.rest.now (rest_of (tags_at c.args.count c.args.bytes.now)) c.loop-test.false c.loop.invariant
