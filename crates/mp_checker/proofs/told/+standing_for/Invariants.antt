use Rattle.std.proofs.Common.{length}
use Rattle.mp_checker.proofs.told.+standing_for.Given as goal

abbrev pub decreases-standing_for : goal.decreases-standing_for
decreases-standing_for l = length l.params.now
