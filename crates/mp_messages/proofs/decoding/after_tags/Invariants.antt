use Rattle.std.proofs.Common.{◌≡◌, ◌-◌}
use Rattle.mp_messages.specs.Reading.{rest_of, tags_at}
use Rattle.mp_messages.proofs.decoding.after_tags.Given as goal

abbrev pub invariant-loop : goal.invariant-loop
invariant-loop l = rest_of (tags_at (l.count - l.counter) l.rest) ≡ rest_of (tags_at l.count l.bytes)
