use Rattle.std.proofs.Common.{sym, subst, List, ℕ, ◌+◌, ◌≤◌}
use Rattle.mp_sets.specs.Numbers.{IsAboveLast}
use Rattle.mp_messages.specs.Reading.{facts_at}
use Rattle.mp_messages.proofs.Loops.{facts_go_on, facts_stop, facts_end}
use Rattle.mp_sets.proofs.RisingLemmas.{above_pushed}
use Rattle.mp_messages.proofs.decoding.facts.Goals as goal

pub returns-in_default : goal.returns-in_default
returns-in_default c =
    facts_stop c.args.publics c.loop.facts c.args.count c.loop.counter c.loop.least c.loop.rest.now (facts_at c.args.publics c.args.count 0 c.args.bytes.now) c.loop-test.true (sym c.in_default.ensures.value) c.loop.invariant.read

pub loop-preserved : goal.loop-preserved
loop-preserved c =
    let P : List ℕ → Type 0 = λ xs. (x : ℕ) → c.in-Some.fact + 1 ≤ x → IsAboveLast xs x in
    record {
      rising = subst P (sym c.in_ok-push.ensures.ok) (above_pushed c.loop.facts c.in-Some.fact);
      read = rw c.in_ok-push.ensures.ok (facts_go_on c.args.publics c.loop.facts c.args.count c.loop.counter c.loop.least c.loop.rest.now c.in-Some.fact c.in-Some.after.now (facts_at c.args.publics c.args.count 0 c.args.bytes.now) c.loop-test.true (sym c.in-Some.ensures.value) c.loop.invariant.read);
    }

pub returns : goal.returns
returns c = facts_end c.args.publics c.loop.facts c.args.count c.loop.counter c.loop.least c.loop.rest.now (facts_at c.args.publics c.args.count 0 c.args.bytes.now) c.loop-test.false c.loop.invariant.read
