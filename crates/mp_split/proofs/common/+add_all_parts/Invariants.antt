use Rattle.mp_split.proofs.Basics.{length}
use Rattle.mp_split.proofs.common.+add_all_parts.Given as goal

abbrev pub decreases-add_all_parts : goal.decreases-add_all_parts
decreases-add_all_parts l = length l.views.now
