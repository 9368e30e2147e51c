use Rattle.std.proofs.Common.{◌≡◌, ◌++◌, take}
use Rattle.mp_audit.proofs.flat_certificate.add_lists.Given as goal

abbrev pub invariant-loop-facts : goal.invariant-loop-facts
invariant-loop-facts l = l.lists ≡ l.initial.lists ++ take l.facts-index l.more
