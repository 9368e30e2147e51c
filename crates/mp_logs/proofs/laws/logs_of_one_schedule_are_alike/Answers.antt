use Rattle.mp_logs.proofs.OneSchedule.{logs_alike}
use Rattle.mp_logs.proofs.laws.logs_of_one_schedule_are_alike.Goals as goal

pub returns : goal.returns
returns c = λ team log other numbered is also same.
    logs_alike team numbered log other is also same
