use Rattle.std.proofs.Common.{◌≡◌, ◌-◌, length, take}
use Rattle.mp_certificates.proofs.from_flat.private_lists.Given as goal

-- the first lists were made
abbrev pub invariant-loop-facts : goal.invariant-loop-facts
invariant-loop-facts l = l.lists ≡ take (length l.lists) l.entry.privates

abbrev pub decreases-loop-facts : goal.decreases-loop-facts
decreases-loop-facts l = length l.entry.privates - length l.lists
