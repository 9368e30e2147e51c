use Rattle.std.proofs.Common.{All, take}
use Rattle.std.specs.List.Sorted.{IsStrictlyIncreasing}
use Rattle.mp_certificates.proofs.formed.all_rise.Given as goal

abbrev pub invariant-loop-facts : goal.invariant-loop-facts
invariant-loop-facts l = All IsStrictlyIncreasing (take l.facts-index l.lists)
