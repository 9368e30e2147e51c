-- Whether an event happened, and parts of a schedule that go on.
use Rattle.std.specs.Prelude.{◌≡◌, ℕ, Bool, true, false, List, ◌++◌}
use Rattle.mp_messages.specs.declared.history.Event.{Event}
use Rattle.mp_messages.specs.declared.history.Event.TheVariants.{Take}
use Rattle.mp_world.specs.Events.{is_legal}
use Rattle.mp_world.specs.RoundRobin.{AsLongAsItMay}
use Rattle.mp_world.specs.Values.{Values}
use Rattle.mp_world.specs.World.{IsTeamWorld, World}
use Rattle.mp_schedule.specs.Happening.{HasHappened}
use Rattle.mp_schedule.specs.TeamRun.{IsSameTeam, TeamRun}

module _ (value : Values) where
  pub record DidHappen (old : TeamRun) (event : Event) (new : TeamRun) : Type 0 where
    pub happened : HasHappened value old event new
    pub same : IsSameTeam old new
    pub team : IsTeamWorld old.tasks old.world

  -- it happened, or it may not happen and nothing changed
  abbrev pub HappensIf : TeamRun → Event → Bool → TeamRun → Type 0
  HappensIf old event true new = DidHappen old event new
  HappensIf old event false new = (is_legal old.world event ≡ false) × (new ≡ old)

  -- an agent takes the messages of another one, as long as there are any
  abbrev pub TakesAll : ℕ → ℕ → World → List Event → World → Type 0
  TakesAll by from = AsLongAsItMay value (Take by from)

-- From one point of a run another one was reached, such that what goes on from there is what goes on from here.
pub record LeadsTo
    (Part : World → List Event → World → Type 0)
    (old new : TeamRun)
    : Type 0 where
  pub events : List Event
  pub onward :
      (later : List Event) (last : World)
      → Part new.world later last
      → Part old.world (events ++ later) last
  pub appended : new.schedule ≡ old.schedule ++ events
  pub same : IsSameTeam old new
  pub kept : new.failed ≡ old.failed
