-- What the world at the start has and each event keeps, the world after a run has.
use Rattle.mp_world.proofs.Basics.{◌≡◌, List, [], ◌∷◌, ◌++◌, Some, subst}
use Rattle.mp_runs.specs.Run.{run as run_of}
use Rattle.mp_runs.proofs.Runs.{run_keeps, run_keeps_history}
use Rattle.mp_world.specs.AgentWords.{Event}
use Rattle.mp_world.specs.Events.{after_event, run}
use Rattle.mp_world.specs.IsRun.{IsRun}
use Rattle.mp_world.specs.Steps.{IsStepOf}
use Rattle.mp_world.specs.Team.{Team, team_with}
use Rattle.mp_world.specs.Values.{Values}
use Rattle.mp_world.specs.World.{IsTeamWorld, World, start_world}
use Rattle.mp_world.proofs.Stepping.{event_is_step, event_keeps_team, start_is_team, team_lists}

module _ (team : Team) where
  open team use {tasks, value}

  -- the world after a run is one of the team
  pub run_of_team : (schedule : List Event) (w : World) → run team schedule ≡ Some w → IsTeamWorld tasks w
  run_of_team schedule w ran =
      run_keeps (after_event value) (IsTeamWorld tasks) (λ v next event is leads. event_keeps_team value tasks v event next is leads) schedule
      (start_world team) w (start_is_team team) ran

  -- what holds of the events so far and the world that they lead to
  pub run_has_history : (Holds : List Event → World → Type 0)
      → Holds [] (start_world team)
      → ((past : List Event) (v : World) (event : Event) (next : World) → IsTeamWorld tasks v → Holds past v → IsStepOf value v event next → Holds (past ++ event ∷ []) next)
      → (schedule : List Event) (w : World) → run team schedule ≡ Some w → Holds schedule w
  run_has_history Holds start keeps schedule w ran =
      (run_keeps_history (after_event value) (λ past v. IsTeamWorld tasks v × Holds past v)
      (λ past v next event both leads. (event_keeps_team value tasks v event next both.0 leads, keeps past v event next both.0 both.1 (event_is_step value v (team_lists tasks v both.0) event next leads)))
      [] schedule (start_world team) w (start_is_team team, start) ran).1

  -- what holds of a world of the team, and each event keeps, holds of each later one
  pub later_has : (Holds : World → Type 0)
      → ((v : World) (event : Event) (next : World) → IsTeamWorld tasks v → Holds v → IsStepOf value v event next → Holds next)
      → (w : World) → IsTeamWorld tasks w → Holds w
      → (events : List Event) (last : World) → run_of (after_event value) w events ≡ Some last → Holds last
  later_has Holds keeps w of_team holds events last leads =
      (run_keeps (after_event value) (λ v. IsTeamWorld tasks v × Holds v)
      (λ v next event both leads. (event_keeps_team value tasks v event next both.0 leads, keeps v event next both.0 both.1 (event_is_step value v (team_lists tasks v both.0) event next leads)))
      events w last (of_team, holds) leads).1

  -- what holds of the world
  pub run_has : (Holds : World → Type 0)
      → Holds (start_world team)
      → ((v : World) (event : Event) (next : World) → IsTeamWorld tasks v → Holds v → IsStepOf value v event next → Holds next)
      → (schedule : List Event) (w : World) → run team schedule ≡ Some w → Holds w
  run_has Holds start keeps = later_has Holds keeps (start_world team) (start_is_team team) start

-- a team whose heuristic has such values
pub run_with : (team : Team) (value : Values) (schedule : List Event) (w : World) → team.value ≡ value → IsRun team schedule w
    → IsRun (team_with value team.limit team.tasks) schedule w
run_with team value schedule w same ran = subst (λ v. IsRun (team_with v team.limit team.tasks) schedule w) same ran
