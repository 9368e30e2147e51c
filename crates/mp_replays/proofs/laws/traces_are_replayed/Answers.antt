use Rattle.mp_replays.proofs.Replayed.{log_again, trace_accepted, trace_again, trace_replayed}
use Rattle.mp_replays.proofs.laws.traces_are_replayed.Goals as goal

pub returns-clause-accepted : goal.returns-clause-accepted
returns-clause-accepted c = λ value limit team schedule found text n checked few f trace refused.
    trace_accepted c.renaming_keeps_tasks.ensures value limit team schedule found text checked few f trace n refused

pub returns-clause-replayed : goal.returns-clause-replayed
returns-clause-replayed c = λ value limit team schedule found text checked few f trace.
    trace_replayed c.renaming_keeps_tasks.ensures value limit team schedule found text checked few f.is_found trace f.logged

pub returns-clause-same : goal.returns-clause-same
returns-clause-same c = λ value limit team schedule found again text checked few f trace replayed.
    trace_again c.renaming_keeps_tasks.ensures value limit team schedule found text checked few f trace again replayed

pub returns-clause-in_turn : goal.returns-clause-in_turn
returns-clause-in_turn c = λ value limit team schedule found again text checked few f trace replayed.
    log_again c.renaming_keeps_tasks.ensures value limit team schedule found text checked few f.is_found trace
    again replayed f.logged
