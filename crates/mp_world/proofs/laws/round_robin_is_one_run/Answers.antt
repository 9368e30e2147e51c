use Rattle.mp_world.proofs.Turns.{round_robin_end, round_robin_one, round_robin_runs}
use Rattle.mp_world.proofs.laws.round_robin_is_one_run.Goals as goal

pub returns-clause-run : goal.returns-clause-run
returns-clause-run c = λ value w last schedule a. round_robin_runs value w last schedule a

pub returns-clause-over : goal.returns-clause-over
returns-clause-over c = λ value w last schedule a. round_robin_end value w last schedule a

pub returns-clause-only : goal.returns-clause-only
returns-clause-only c = λ value w last final schedule another a b. round_robin_one value w last final schedule another a b
