-- What the agents have found in the world after a run.
use Rattle.mp_world.proofs.Basics.{◌≡◌, List, Some, None}
use Rattle.mp_runs.proofs.Runs.{run_keeps}
use Rattle.mp_reach.specs.LeadsOn.{IsGoal, IsTeamExploredFor, Known}
use Rattle.mp_world.specs.AgentWords.{AgentTask, Event}
use Rattle.mp_world.specs.Events.{after_event, run}
use Rattle.mp_world.specs.Team.{AreTeamTasks, IsTeam, Team}
use Rattle.mp_world.specs.Values.{Values}
use Rattle.mp_world.specs.World.{IsTeamWorld, World, start_world}
use Rattle.mp_world.proofs.Stepping.{event_is_step, event_keeps_team, start_is_team, team_lists}
use Rattle.mp_team_states.specs.Room.{AreSmall}
use Rattle.mp_team_states.specs.Sound.{AreStatesSound}
use Rattle.mp_team_states.proofs.RoomCounts.{start_small}
use Rattle.mp_team_states.proofs.RoomLemmas.{event_small}
use Rattle.mp_team_states.proofs.StartSound.{start_states_sound}
use Rattle.mp_team_states.proofs.StepsSound.{states_stay_sound}
use Rattle.mp_team_states.specs.Estimates.{AreEstimatesBoundsFor}
use Rattle.mp_team_states.specs.TeamFound.{found_of}
use Rattle.mp_team_states.proofs.Bounds.{event_bounds, start_bounds}
use Rattle.mp_team_states.proofs.Explored.{event_explored, start_explored}
use Rattle.mp_team_states.proofs.Flags.{HaveAllFlags, event_flags, start_flags}
use Rattle.mp_team_states.proofs.SoundWorlds.{IsHeuristicFor}

module _ (value : Values) (tasks : List AgentTask) (are : AreTeamTasks tasks) where
  -- what is so in each world of a run, whatever counts as a goal
  pub record IsInvariantFor (Goal : Known → Type 0) (w : World) : Type 0 where
    pub team : IsTeamWorld tasks w
    pub sound : AreStatesSound tasks w
    pub small : AreSmall w
    pub bounds : AreEstimatesBoundsFor tasks Goal w
    pub explored : IsTeamExploredFor tasks Goal None (found_of w)
    pub flags : HaveAllFlags tasks are w

  -- the same where all goals of the team are true
  abbrev pub IsInvariant : World → Type 0
  IsInvariant w = IsInvariantFor (IsGoal tasks) w

  module _ {Goal : Known → Type 0} (heuristic : IsHeuristicFor Goal value tasks) where
    pub step_keeps : (w next : World) (event : Event) → IsTeamWorld tasks w → AreStatesSound tasks w → AreSmall w → AreEstimatesBoundsFor tasks Goal w → after_event value w event ≡ Some next
        → AreEstimatesBoundsFor tasks Goal next × (IsTeamExploredFor tasks Goal None (found_of w) → IsTeamExploredFor tasks Goal None (found_of next))
    step_keeps w next event team sound small bounds leads =
        let is = event_is_step value w (team_lists tasks w team) event next leads in
        let later_team = event_keeps_team value tasks w event next team leads in
        let later_sound = states_stay_sound tasks are w team sound value next event is in
        let later = event_bounds tasks are value heuristic w team sound small bounds next later_team later_sound event is in
        (later, λ explored. event_explored tasks are value heuristic w team sound small next later_team later_sound later event is explored)

    pub event_invariant : (w next : World) (event : Event) → IsInvariantFor Goal w → after_event value w event ≡ Some next → IsInvariantFor Goal next
    event_invariant w next event all leads =
        let is = event_is_step value w (team_lists tasks w all.team) event next leads in
        let both = step_keeps w next event all.team all.sound all.small all.bounds leads in
        record {
          team = event_keeps_team value tasks w event next all.team leads;
          sound = states_stay_sound tasks are w all.team all.sound value next event is;
          small = event_small tasks are w all.team all.sound all.small value heuristic.small next event is;
          bounds = both.0;
          explored = both.1 all.explored;
          flags = event_flags tasks are value w all.team all.sound all.small heuristic.small next event is all.flags;
        }

module _ (team : Team) (is_team : IsTeam team) {Goal : Known → Type 0} (heuristic : IsHeuristicFor Goal team.value team.tasks) where
  open team use {tasks, value}

  pub start_invariant : IsInvariantFor value tasks is_team.tasks Goal (start_world team)
  start_invariant =
      let of_team = start_is_team team in
      let sound = start_states_sound team is_team in
      let bounds = start_bounds team is_team heuristic of_team sound in
      record {
        team = of_team;
        sound = sound;
        small = start_small team is_team heuristic.small;
        bounds = bounds;
        explored = start_explored team is_team heuristic of_team sound bounds;
        flags = start_flags team is_team;
      }

  pub run_invariant : (schedule : List Event) (w : World) → run team schedule ≡ Some w → IsInvariantFor value tasks is_team.tasks Goal w
  run_invariant schedule w ran =
      run_keeps (after_event value) (IsInvariantFor value tasks is_team.tasks Goal)
      (λ v next event all leads. event_invariant value tasks is_team.tasks heuristic v next event all leads) schedule (start_world team) w start_invariant ran
