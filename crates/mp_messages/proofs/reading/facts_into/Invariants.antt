use Rattle.std.proofs.Common.{◌≡◌, ◌-◌}
use Rattle.mp_messages.specs.Reading.{as_set, facts_at}
use Rattle.mp_messages.proofs.Parts.{into_set}
use Rattle.mp_messages.proofs.reading.facts_into.Given as goal

abbrev pub invariant-loop : goal.invariant-loop
invariant-loop l = record {
  size : l.facts.size ≡ l.publics;
  read : into_set l.facts.members (facts_at l.publics (l.count - l.counter) l.least l.rest) ≡ as_set (facts_at l.publics l.count 0 l.bytes);
}
