use Rattle.std.proofs.Common.{◌≡◌, length, take}
use Rattle.mp_audit.proofs.flat_certificate.flat_bounds.Given as goal

abbrev pub invariant-loop-bound : goal.invariant-loop-bound
invariant-loop-bound l = l.made ≡ record { agents = length l.tasks; entries = take l.bound-index l.bounds }
