-- A run of a team.
use Rattle.std.specs.Prelude.{◌≡◌, List, Some}
use Rattle.mp_messages.specs.declared.history.Event.{Event}
use Rattle.mp_world.specs.Events.{run}
use Rattle.mp_world.specs.Team.{IsTeam, Team}
use Rattle.mp_world.specs.World.{World}

-- the team may run, and the events lead from its start to the world
pub record IsRun (team : Team) (events : List Event) (w : World) : Type 0 where
  pub is_team : IsTeam team
  pub leads : run team events ≡ Some w
