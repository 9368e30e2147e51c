use Rattle.mp_split.proofs.Basics.{length}
use Rattle.mp_split.proofs.team_tasks.+add_bytes.Given as goal

abbrev pub decreases-add_bytes : goal.decreases-add_bytes
decreases-add_bytes l = length l.before.now
