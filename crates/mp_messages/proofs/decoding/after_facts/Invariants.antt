use Rattle.std.proofs.Common.{◌≡◌, ◌-◌}
use Rattle.mp_messages.specs.Reading.{rest_of, facts_at}
use Rattle.mp_messages.proofs.decoding.after_facts.Given as goal

abbrev pub invariant-loop : goal.invariant-loop
invariant-loop l =
    rest_of (facts_at l.publics (l.count - l.counter) l.least l.rest) ≡ rest_of (facts_at l.publics l.count 0 l.bytes)
