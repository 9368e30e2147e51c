use Rattle.std.proofs.Common.{◌-◌, ◌^◌, length}
use Rattle.mp_schedule.specs.GoingOn.{LeadsTo}
use Rattle.mp_world.specs.RoundRobin.{Rounds}
use Rattle.mp_schedule.proofs.team.World.rounds.Given as goal

abbrev pub invariant-rounds : goal.invariant-rounds
invariant-rounds g l = LeadsTo (Rounds g.H.Heuristic.value l.agents) l.fn.self l.self

-- the room that memory has left for events
abbrev pub decreases-rounds : goal.decreases-rounds
decreases-rounds g l = 2 ^ 59 - length l.self.schedule
