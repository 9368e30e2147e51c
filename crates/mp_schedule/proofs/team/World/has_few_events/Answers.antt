use Rattle.std.proofs.Common.{◌<◌, ◌^◌, length, subst}
use Rattle.mp_schedule.proofs.MoreEvents.{few_events}
use Rattle.mp_schedule.specs.TeamRun.{TeamRun}
use Rattle.mp_schedule.proofs.team.World.has_few_events.Goals as goal

pub returns : goal.returns
returns g c =
    subst (λ (r : TeamRun). length r.schedule < 2 ^ 59) c.self.view_is (few_events c.self.inside.log c.is_in_memory.ensures)
