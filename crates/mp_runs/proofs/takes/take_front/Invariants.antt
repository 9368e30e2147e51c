use Rattle.std.proofs.Common.{◌≡◌, Some, take}
use Rattle.mp_runs.specs.Run.{run}
use Rattle.mp_runs.proofs.takes.take_front.Given as goal

abbrev pub invariant-loop-event : goal.invariant-loop-event
invariant-loop-event g l =
    record { counted : l.taken ≡ l.event-index; reached : run g.S.Takes.step l.fn.state (take l.taken l.events) ≡ Some l.state }
