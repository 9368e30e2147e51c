use Rattle.mp_reach.specs.LeadsOn.{LeadsOn, IsGoal, IsRoot}
use Rattle.mp_reach.proofs.Changing.{started_explored}
use Rattle.mp_reach.proofs.changes.a_start_is_explored.Goals as goal

pub returns : goal.returns
returns g c = λ tasks found starts roots bounds. started_explored (LeadsOn tasks) (IsGoal tasks) (IsRoot tasks) found starts roots bounds
