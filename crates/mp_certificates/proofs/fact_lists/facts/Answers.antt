use Rattle.std.proofs.Common.{◌≡◌, sym, ap, ◌∙◌, ℕ, Bool, true, false, Some}
use Rattle.mp_text.specs.Lines.{Text}
use Rattle.mp_certificates.specs.Reading.{fact_at, facts_from}
use Rattle.mp_certificates.proofs.ListLemmas.{facts_go_on, facts_last, facts_spent, facts_stop}
use Rattle.mp_certificates.proofs.fact_lists.facts.Goals as goal

pub returns-in_default : goal.returns-in_default
returns-in_default c =
    facts_stop c.loop.numbers.items c.args.size c.loop.counter c.loop.least c.loop.rest.now
    (facts_from c.args.size c.args.size 0 c.args.text.now) c.loop-test.true (sym c.in_default.ensures.value) c.loop.invariant

-- what was read of a fact, where it is known whether another follows
read_fact : (size least number : ℕ) (more known : Bool) (text after : Text) → Some ((number, more), after) ≡ fact_at size least text
    → more ≡ known → fact_at size least text ≡ Some ((number, known), after)
read_fact size least number more known text after read is =
    sym read ∙ ap (λ (b : Bool). Some ((number, b), after)) is

pub returns-then-not-more : goal.returns-then-not-more
returns-then-not-more c =
    let read = read_fact c.args.size c.loop.least c.in-Some.number c.in-Some.more false c.loop.rest.now c.in-Some.after.now
    c.in-Some.ensures.value c.if-not-more.true in
    rw c.in_ok-push_number.ensures (facts_last c.loop.numbers.items c.args.size c.loop.counter c.loop.least c.loop.rest.now
    (facts_from c.args.size c.args.size 0 c.args.text.now) c.in-Some.number c.in-Some.after.now c.loop-test.true read c.loop.invariant)

pub loop-preserved : goal.loop-preserved
loop-preserved c =
    let read = read_fact c.args.size c.loop.least c.in-Some.number c.in-Some.more true c.loop.rest.now c.in-Some.after.now
    c.in-Some.ensures.value c.if-not-more.false in
    rw c.in_ok-push_number.ensures (facts_go_on c.loop.numbers.items c.args.size c.loop.counter c.loop.least c.loop.rest.now
    (facts_from c.args.size c.args.size 0 c.args.text.now) c.in-Some.number c.in-Some.after.now c.loop-test.true read c.loop.invariant)

pub returns : goal.returns
returns c =
    facts_spent c.loop.numbers.items c.args.size c.loop.counter c.loop.least c.loop.rest.now
    (facts_from c.args.size c.args.size 0 c.args.text.now) c.loop-test.false c.loop.invariant
