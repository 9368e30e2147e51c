-- A team that has done something, and one whose agents have ended.
use Rattle.std.specs.Prelude.{◌≡◌, false, List}
use Rattle.mp_messages.specs.declared.history.Event.{Event}
use Rattle.mp_world.specs.RoundRobin.{IsRoundRobin}
use Rattle.mp_world.specs.Team.{Team}
use Rattle.mp_world.specs.World.{start_world}
use Rattle.mp_schedule.specs.TeamRun.{IsLogged, MayRun, TeamRun}

-- the agents of a given team have done the events of a schedule from the start
pub record HasDoneAll (given : Team) (schedule : List Event) (r : TeamRun) : Type 0 where
  pub tasks_are : r.tasks ≡ given.tasks
  pub limit_is : r.limit ≡ given.limit
  pub team : MayRun r
  pub free : r.failed ≡ false
  pub run : IsLogged given.value r
  pub schedule_is : r.schedule ≡ schedule

-- they have taken turns from the start until all have ended
pub record HasEnded (team : Team) (r : TeamRun) : Type 0 where
  pub done : HasDoneAll team r.schedule r
  pub round_robin : IsRoundRobin team.value (start_world team) r.schedule r.world
