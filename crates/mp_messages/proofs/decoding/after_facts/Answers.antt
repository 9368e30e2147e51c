use Rattle.std.proofs.Common.{sym}
use Rattle.mp_messages.specs.Reading.{rest_of, facts_at}
use Rattle.mp_messages.proofs.Loops.{facts_pass, facts_fail, facts_done}
use Rattle.mp_messages.proofs.decoding.after_facts.Goals as goal

pub returns-in_default : goal.returns-in_default
returns-in_default c =
    facts_fail c.args.publics c.args.count c.loop.counter c.loop.least c.loop.rest.now (rest_of (facts_at c.args.publics c.args.count 0 c.args.bytes.now)) c.loop-test.true (sym c.in_default.ensures.value) c.loop.invariant

pub loop-preserved : goal.loop-preserved
loop-preserved c =
    facts_pass c.args.publics c.args.count c.loop.counter c.loop.least c.loop.rest.now c.in-Some.fact c.in-Some.after.now (rest_of (facts_at c.args.publics c.args.count 0 c.args.bytes.now)) c.loop-test.true (sym c.in-Some.ensures.value) c.loop.invariant

pub returns : goal.returns
returns c =
    facts_done c.args.publics c.args.count c.loop.counter c.loop.least c.loop.rest.now (rest_of (facts_at c.args.publics c.args.count 0 c.args.bytes.now)) c.loop-test.false c.loop.invariant
