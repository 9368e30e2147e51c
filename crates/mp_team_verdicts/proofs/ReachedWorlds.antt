-- Worlds that the legal schedules of a team lead to, and what holds of them.
use Rattle.mp_world.proofs.Basics.{◌≡◌, ℕ, Bool, true, List, [], ◌∷◌, ◌++◌, Option, Some, refl, sym, ap, subst, ◌∙◌, list_all, option_and_then, and_parts, same_Some}
use Rattle.mp_runs.specs.Run.{run as run_of}
use Rattle.mp_runs.proofs.Runs.{run-more, run-none, run_parts}
use Rattle.mp_world.specs.AgentWords.{Event}
use Rattle.mp_world.specs.Events.{after_event, run}
use Rattle.mp_world.specs.Steps.{IsStepOf}
use Rattle.mp_world.specs.Team.{IsTeam, Team}
use Rattle.mp_world.specs.World.{World, start_world}
use Rattle.mp_world.proofs.Stepping.{event_is_step, team_lists}
use Rattle.mp_team_snapshots.specs.Team.{IsTeamOf}
use Rattle.mp_team_verdicts.proofs.Frames.{IsKnownWorld}
use Rattle.mp_team_verdicts.proofs.InRuns.{known_of}

-- a legal schedule of the team leads to a world
pub record IsReached (team : Team) (w : World) : Type 0 where
  pub schedule : List Event
  pub ran : run team schedule ≡ Some w

pub all_pass : (events : List Event) → list_all (λ event. true) events ≡ true
all_pass [] = refl
all_pass (e ∷ events) = all_pass events

module _ (team : Team) (is_team : IsTeam team) (publics : ℕ) (of_team : IsTeamOf publics team.tasks) where
  open team use {tasks, value}

  pub start_reached : IsReached team (start_world team)
  start_reached = record { schedule = []; ran = run-none (after_event value) (start_world team) }

  pub known : (w : World) → IsReached team w → IsKnownWorld publics tasks w
  known w at = known_of team is_team publics of_team at.schedule w at.ran

  pub reached_next : (w next : World) (event : Event) → IsReached team w → after_event value w event ≡ Some next
      → IsReached team next
  reached_next w next event at leads = record {
    schedule = at.schedule ++ event ∷ [];
    ran =
        run-more (after_event value) (start_world team) at.schedule event
        ∙ ap (λ (o : Option World). option_and_then (λ t. after_event value t event) o) at.ran ∙ leads;
  }

  pub step_of : (w next : World) (event : Event) → IsReached team w → after_event value w event ≡ Some next
      → IsStepOf value w event next
  step_of w next event at leads = event_is_step value w (team_lists tasks w (known w at).team) event next leads

  -- What each event that passes a test keeps is kept by events that all pass it.
  pub onward : (test : Event → Bool) (Holds : World → Type 0)
      → ((v : World) (event : Event) (next : World) → IsReached team v → IsReached team next
      → IsStepOf value v event next → test event ≡ true → Holds v → Holds next)
      → (events : List Event) (u w : World) → IsReached team u → Holds u → list_all test events ≡ true
      → run_of (after_event value) u events ≡ Some w
      → IsReached team w × Holds w
  onward test Holds keeps [] u w at holds pass goes =
      let same : u ≡ w = same_Some u w (sym (run-none (after_event value) u) ∙ goes) in
      (subst (IsReached team) same at, subst Holds same holds)
  onward test Holds keeps (e ∷ events) u w at holds pass goes =
      let parts = run_parts (after_event value) u w e events goes in
      let v = parts.0 in
      let now = reached_next u v e at parts.1 in
      let tests = and_parts (test e) (list_all test events) pass in
      onward test Holds keeps events v w now
      (keeps u e v at now (step_of u v e at parts.1) tests.0 holds)
      tests.1 parts.2

  -- so it is with what the world at the start has, too
  pub in_runs : (Holds : World → Type 0) → Holds (start_world team)
      → ((v : World) (event : Event) (next : World) → IsReached team v → IsReached team next
      → IsStepOf value v event next → Holds v → Holds next)
      → (w : World) → IsReached team w → Holds w
  in_runs Holds start keeps w at =
      (onward (λ event. true) Holds (λ v event next at_v at_next step pass holds. keeps v event next at_v at_next step holds)
      at.schedule (start_world team) w start_reached start (all_pass at.schedule) at.ran).1
