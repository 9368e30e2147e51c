use Rattle.std.proofs.Common.{length}
use Rattle.mp_search.proofs.concern.+is_unmet.Given as goal

abbrev pub decreases-is_unmet : goal.decreases-is_unmet
decreases-is_unmet l = length l.tags.now
