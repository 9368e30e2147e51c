use Rattle.std.proofs.Common.{length}
use Rattle.mp_checker.proofs.standing.+add_standing.Given as goal

abbrev pub decreases-add_standing : goal.decreases-add_standing
decreases-add_standing l = length l.members.now
