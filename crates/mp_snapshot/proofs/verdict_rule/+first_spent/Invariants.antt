use Rattle.std.proofs.Common.{length}
use Rattle.mp_snapshot.proofs.verdict_rule.+first_spent.Given as goal

abbrev pub decreases-first_spent : goal.decreases-first_spent
decreases-first_spent l = length l.found.now
