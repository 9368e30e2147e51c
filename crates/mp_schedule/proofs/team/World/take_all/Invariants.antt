use Rattle.std.proofs.Common.{length}
use Rattle.mp_schedule.specs.GoingOn.{LeadsTo, TakesAll}
use Rattle.mp_world.specs.World.{under_way}
use Rattle.mp_schedule.proofs.team.World.take_all.Given as goal

abbrev pub invariant-messages : goal.invariant-messages
invariant-messages g l = LeadsTo (TakesAll g.H.Heuristic.value l.by l.from) l.fn.self l.self

abbrev pub decreases-messages : goal.decreases-messages
decreases-messages g l = length (under_way l.self.world l.from l.by)
