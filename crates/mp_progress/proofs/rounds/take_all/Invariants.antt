use Rattle.mp_schedule.specs.TeamRun.{IsSameTeam}
use Rattle.mp_progress.proofs.rounds.take_all.Given as goal

abbrev pub invariant-loop : goal.invariant-loop
invariant-loop g l = IsSameTeam l.fn.world l.world
