use Rattle.std.proofs.Common.{length}
use Rattle.mp_team.proofs.workers.+all_served.Given as goal

abbrev pub decreases-all_served : goal.decreases-all_served
decreases-all_served g l = length l.others.items
