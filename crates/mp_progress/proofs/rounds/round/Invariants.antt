use Rattle.mp_schedule.specs.TeamRun.{IsSameTeam}
use Rattle.mp_progress.proofs.rounds.round.Given as goal

abbrev pub invariant-loop-before : goal.invariant-loop-before
invariant-loop-before g l = IsSameTeam l.fn.world l.world
