use Rattle.mp_machine.specs.Outgoing.{others}
use Rattle.mp_schedule.specs.GoingOn.{TakesAll}
use Rattle.mp_schedule.specs.TeamRun.{HasDone}
use Rattle.mp_world.specs.RoundRobin.{ForEach}
use Rattle.mp_schedule.proofs.team.World.take_from_others.Given as goal

abbrev pub invariant-loop-before : goal.invariant-loop-before
invariant-loop-before g l = HasDone (ForEach (TakesAll g.H.Heuristic.value l.by)
    (others l.by l.before)) l.fn.self l.self
