use Rattle.std.proofs.Common.{All, take}
use Rattle.mp_certificates.specs.Accepted.{IsFormed}
use Rattle.mp_certificates.proofs.formed.are_formed.Given as goal

abbrev pub invariant-loop-entry : goal.invariant-loop-entry
invariant-loop-entry l = All IsFormed (take l.entry-index l.entries)
