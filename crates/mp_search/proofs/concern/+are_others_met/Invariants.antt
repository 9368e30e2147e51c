use Rattle.std.proofs.Common.{length}
use Rattle.mp_search.proofs.concern.+are_others_met.Given as goal

abbrev pub decreases-are_others_met : goal.decreases-are_others_met
decreases-are_others_met l = length l.tags.now
