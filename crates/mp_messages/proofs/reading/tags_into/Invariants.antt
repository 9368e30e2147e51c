use Rattle.std.proofs.Common.{◌≡◌, ◌-◌}
use Rattle.mp_messages.specs.Reading.{tags_at}
use Rattle.mp_messages.proofs.Loops.{with_front}
use Rattle.mp_messages.proofs.reading.tags_into.Given as goal

abbrev pub invariant-loop : goal.invariant-loop
invariant-loop l = with_front l.tags (tags_at (l.count - l.counter) l.rest) ≡ tags_at l.count l.bytes
