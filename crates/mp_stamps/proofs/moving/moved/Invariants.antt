use Rattle.std.proofs.Common.{length}
use Rattle.mp_stamps.proofs.ByTurns.{IsMerging}
use Rattle.mp_stamps.proofs.Parts.{flat}
use Rattle.mp_stamps.proofs.moving.moved.Given as goal

abbrev pub invariant-turns : goal.invariant-turns
invariant-turns l = IsMerging l.fn.lists l.rests.items l.log

abbrev pub decreases-turns : goal.decreases-turns
decreases-turns l = length (flat l.rests.items)
