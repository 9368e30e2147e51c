use Rattle.std.proofs.Common.{length}
use Rattle.mp_snapshot.proofs.verdict_rule.+first_with_goal.Given as goal

abbrev pub decreases-first_with_goal : goal.decreases-first_with_goal
decreases-first_with_goal l = length l.found.now
