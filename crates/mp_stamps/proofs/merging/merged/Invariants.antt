use Rattle.std.proofs.Common.{length, map}
use Rattle.mp_stamps.proofs.ByTurns.{IsMerging}
use Rattle.mp_stamps.proofs.Parts.{flat}
use Rattle.mp_stamps.proofs.merging.merged.Given as goal

abbrev pub invariant-turns : goal.invariant-turns
invariant-turns l = IsMerging l.lists (map (λ rest. rest.now) l.rests.items) l.log

abbrev pub decreases-turns : goal.decreases-turns
decreases-turns l = length (flat (map (λ rest. rest.now) l.rests.items))
