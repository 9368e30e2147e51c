use Rattle.std.proofs.Common.{length}
use Rattle.mp_snapshot.proofs.verdict_rule.+least_f.Given as goal

abbrev pub decreases-least_f : goal.decreases-least_f
decreases-least_f l = length l.found.now
