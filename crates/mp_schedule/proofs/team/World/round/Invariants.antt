use Rattle.std.specs.List.{range_with_len}
use Rattle.mp_schedule.specs.TeamRun.{HasDone}
use Rattle.mp_world.specs.RoundRobin.{ForEach, Turn}
use Rattle.mp_schedule.proofs.team.World.round.Given as goal

abbrev pub invariant-loop-before : goal.invariant-loop-before
invariant-loop-before g l = HasDone (ForEach (Turn g.H.Heuristic.value l.agents)
    (range_with_len 1 l.before)) l.fn.self l.self
