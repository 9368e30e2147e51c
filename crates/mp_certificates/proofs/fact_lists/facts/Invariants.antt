use Rattle.std.proofs.Common.{◌≡◌, ◌-◌}
use Rattle.mp_messages.proofs.Loops.{with_front}
use Rattle.mp_certificates.specs.Reading.{facts_from}
use Rattle.mp_certificates.proofs.fact_lists.facts.Given as goal

-- the facts so far and those that are left make the whole
abbrev pub invariant-loop : goal.invariant-loop
invariant-loop l =
    with_front l.numbers.items (facts_from (l.size - l.counter) l.size l.least l.rest) ≡ facts_from l.size l.size 0 l.text
