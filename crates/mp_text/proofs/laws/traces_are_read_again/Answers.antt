use Rattle.mp_text.proofs.AgainLemmas.{ended_read, events_read, trace_read}
use Rattle.mp_text.proofs.laws.traces_are_read_again.Goals as goal

pub returns-clause-read : goal.returns-clause-read
returns-clause-read c = trace_read

pub returns-clause-events : goal.returns-clause-events
returns-clause-events c = events_read

pub returns-clause-ended : goal.returns-clause-ended
returns-clause-ended c = ended_read
