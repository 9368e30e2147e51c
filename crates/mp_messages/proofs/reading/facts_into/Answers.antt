use Rattle.std.proofs.Common.{◌≡◌, ◌+◌, ◌-◌, sym, ap, ◌∙◌, arith}
use Rattle.mp_sets.specs.Numbers.{SizedSet}
use Rattle.mp_messages.specs.Reading.{as_set, facts_at}
use Rattle.mp_messages.proofs.Parts.{into_set, into_empty, facts_go_in, facts_stop_in, facts_end_in}
use Rattle.mp_messages.proofs.reading.facts_into.Goals as goal

pub loop-init : goal.loop-init
loop-init c = let k : c.args.count - 0 ≡ c.args.count = omega arith in record {
  size = ap (λ (s : SizedSet). s.size) c.clear.ensures ∙ c.requires;
  read =
      rw k
      (ap (λ (s : SizedSet). into_set s.members (facts_at c.args.publics c.args.count 0 c.args.bytes.now)) c.clear.ensures
      ∙ into_empty (facts_at c.args.publics c.args.count 0 c.args.bytes.now));
}

pub returns-in_default-clause-read : goal.returns-in_default-clause-read
returns-in_default-clause-read c =
    facts_stop_in c.args.publics c.loop.facts.members c.args.count c.loop.counter c.loop.least c.loop.rest.now
    (as_set (facts_at c.args.publics c.args.count 0 c.args.bytes.now)) c.loop-test.true (sym c.in_default.ensures.value) c.loop.invariant.read

pub loop-preserved : goal.loop-preserved
loop-preserved c = record {
  size = ap (λ (s : SizedSet). s.size) c.insert.ensures ∙ c.loop.invariant.size;
  read =
      ap (λ (s : SizedSet). into_set s.members
      (facts_at c.args.publics (c.args.count - (c.loop.counter + 1)) (c.in-Some.fact + 1) c.in-Some.after.now)) c.insert.ensures
      ∙ facts_go_in c.args.publics c.loop.facts.members c.args.count c.loop.counter c.loop.least c.loop.rest.now c.in-Some.fact c.in-Some.after.now
      (as_set (facts_at c.args.publics c.args.count 0 c.args.bytes.now)) c.loop-test.true (sym c.in-Some.ensures.value) c.loop.invariant.read;
}

pub returns-clause-read : goal.returns-clause-read
returns-clause-read c =
    facts_end_in c.args.publics c.loop.facts.members c.args.count c.loop.counter c.loop.least c.loop.rest.now
    (as_set (facts_at c.args.publics c.args.count 0 c.args.bytes.now)) c.loop-test.false c.loop.invariant.read
