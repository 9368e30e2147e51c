use Rattle.std.proofs.Common.{◌≡◌, ◌-◌, length, take}
use Rattle.mp_certificates.proofs.from_flat.own_entries.Given as goal

-- the first entries were made
abbrev pub invariant-loop-entry : goal.invariant-loop-entry
invariant-loop-entry l = l.bounds ≡ take (length l.bounds) l.flat.entries

abbrev pub decreases-loop-entry : goal.decreases-loop-entry
decreases-loop-entry l = length l.flat.entries - length l.bounds
