use Rattle.std.proofs.Common.{◌≡◌, ℕ, ◌-◌, ◌≤◌}
use Rattle.mp_sets.specs.Numbers.{IsAboveLast}
use Rattle.mp_messages.specs.Reading.{facts_at}
use Rattle.mp_messages.proofs.Loops.{with_front}
use Rattle.mp_messages.proofs.decoding.facts.Given as goal

abbrev pub invariant-loop : goal.invariant-loop
invariant-loop l = record {
  rising : (x : ℕ) → l.least ≤ x → IsAboveLast l.facts x;
  read : with_front l.facts (facts_at l.publics (l.count - l.counter) l.least l.rest) ≡ facts_at l.publics l.count 0 l.bytes;
}
