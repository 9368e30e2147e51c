use Rattle.std.proofs.Common.{length}
use Rattle.mp_snapshot.proofs.verdict_rule.+least_goal.Given as goal

abbrev pub decreases-least_goal : goal.decreases-least_goal
decreases-least_goal l = length l.found.now
