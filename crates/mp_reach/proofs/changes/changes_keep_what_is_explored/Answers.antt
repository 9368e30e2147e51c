use Rattle.mp_reach.specs.LeadsOn.{LeadsOn, IsGoal, IsRoot}
use Rattle.mp_reach.proofs.Changing.{kept_explored, closes_explored, offered_explored, sends_explored, takes_explored}
use Rattle.mp_reach.proofs.changes.changes_keep_what_is_explored.Goals as goal

pub returns : goal.returns
returns g c = record {
  keeps = λ tasks exempt old new n keeps bound x. kept_explored (LeadsOn tasks) (IsGoal tasks) (IsRoot tasks) old new n keeps exempt bound x;
  closes = λ tasks old new closed closes x. closes_explored (LeadsOn tasks) (IsGoal tasks) (IsRoot tasks) old new closed closes x;
  offered = λ tasks found closed offered x. offered_explored (LeadsOn tasks) (IsGoal tasks) (IsRoot tasks) found closed (λ e at cost t step. offered e cost t at step) x;
  sends = λ tasks exempt old new sends bounds x. sends_explored (LeadsOn tasks) (IsGoal tasks) (IsRoot tasks) old new exempt sends bounds x;
  takes = λ tasks old new taken takes known x. takes_explored (LeadsOn tasks) (IsGoal tasks) (IsRoot tasks) old new taken takes known x;
}
