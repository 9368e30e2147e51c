use Rattle.mp_runs.proofs.Runs.{run-cons, run-more}
use Rattle.mp_world.specs.Events.{after_event}
use Rattle.mp_world.specs.World.{start_world}
use Rattle.mp_logs.proofs.laws.schedules_are_done_in_parts.Goals as goal

pub returns-clause-front : goal.returns-clause-front
returns-clause-front c = λ value w event later. run-cons (after_event value) w event later

pub returns-clause-back : goal.returns-clause-back
returns-clause-back c = λ team before event.
    run-more (after_event team.value) (start_world team) before event
