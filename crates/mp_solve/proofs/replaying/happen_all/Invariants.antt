use Rattle.std.proofs.Common.{map, take}
use Rattle.mp_text.specs.declared.schedule.EventLine.{EventLine}
use Rattle.mp_schedule.specs.TeamRun.{team_in}
use Rattle.mp_solve.specs.Ended.{HasDoneAll}
use Rattle.mp_solve.proofs.replaying.happen_all.Given as goal

abbrev pub invariant-loop-line : goal.invariant-loop-line
invariant-loop-line g l =
    HasDoneAll (team_in g.H.Heuristic.value l.fn.world)
    (map (λ (line : EventLine). line.event) (take l.line-index l.lines)) l.world
