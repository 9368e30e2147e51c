use Rattle.mp_world.proofs.LogOfRun.{run_log_is_log, run_log_mail, run_log_schedule}
use Rattle.mp_world.proofs.laws.runs_have_logs.Goals as goal

pub returns-clause-schedule : goal.returns-clause-schedule
returns-clause-schedule c = λ team schedule w numbered ran. run_log_schedule team.value team.tasks numbered team.limit schedule w ran

pub returns-clause-mail : goal.returns-clause-mail
returns-clause-mail c = λ team schedule w from to numbered ran is_from is_to.
    run_log_mail team.value team.tasks numbered team.limit schedule w ran from to is_from is_to

pub returns-clause-log : goal.returns-clause-log
returns-clause-log c = λ team schedule w numbered ran. run_log_is_log team.value team.tasks numbered team.limit schedule w ran
