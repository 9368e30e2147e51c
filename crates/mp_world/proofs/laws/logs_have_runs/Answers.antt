use Rattle.mp_world.proofs.RunOfLog.{log_has_run}
use Rattle.mp_world.proofs.laws.logs_have_runs.Goals as goal

pub returns : goal.returns
returns c = λ team log numbered is. log_has_run team numbered log is
