use Rattle.mp_logs.proofs.Onward.{done_both, done_next}
use Rattle.mp_logs.proofs.laws.what_is_done_goes_on.Goals as goal

pub returns-clause-both : goal.returns-clause-both
returns-clause-both c = λ value first middle last front back done then.
    done_both value first middle last front back done then

pub returns-clause-next : goal.returns-clause-next
returns-clause-next c = λ value first middle log event bytes s done own allowed did.
    done_next value first middle log event bytes s done own allowed did
