use Rattle.std.proofs.Common.{◌≡◌, ◌-◌, List, sym, ap, ◌∙◌, arith}
use Rattle.mp_sets.specs.declared.tag.Tag.{Tag}
use Rattle.mp_messages.specs.Reading.{tags_at}
use Rattle.mp_messages.proofs.Loops.{with_front, tags_go_on, tags_stop, tags_end}
use Rattle.mp_messages.proofs.Parts.{none_before}
use Rattle.mp_messages.proofs.reading.tags_into.Goals as goal

pub loop-init : goal.loop-init
loop-init c =
    let k : c.args.count - 0 ≡ c.args.count = omega arith in
    rw k
    (ap (λ (ts : List Tag). with_front ts (tags_at c.args.count c.args.bytes.now)) c.clear.ensures ∙ none_before (tags_at c.args.count c.args.bytes.now))

pub returns-in_default : goal.returns-in_default
returns-in_default c =
    sym (tags_stop c.loop.tags c.args.count c.loop.counter c.loop.rest.now (tags_at c.args.count c.args.bytes.now) c.loop-test.true
    (sym c.in_default.ensures) c.loop.invariant)

pub loop-preserved : goal.loop-preserved
loop-preserved c =
    rw c.in_ok-push.ensures.ok
    (tags_go_on c.loop.tags c.args.count c.loop.counter c.loop.rest.now c.in-Some.tag c.in-Some.after.now (tags_at c.args.count c.args.bytes.now)
    c.loop-test.true (sym c.in-Some.ensures) c.loop.invariant)

pub returns : goal.returns
returns c =
    sym (tags_end c.loop.tags c.args.count c.loop.counter c.loop.rest.now (tags_at c.args.count c.args.bytes.now) c.loop-test.false c.loop.invariant)
