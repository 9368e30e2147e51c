use Rattle.mp_logs.proofs.Made.{log_of_parts}
use Rattle.mp_logs.proofs.laws.parts_make_a_log.Goals as goal

pub returns : goal.returns
returns c = λ team log record_of numbered history done.
    log_of_parts team numbered log record_of history done
