use Rattle.mp_team_states.proofs.Heuristics.{heuristic_in, heuristic_of}
use Rattle.mp_team_states.proofs.Runs.{run_invariant, start_invariant, step_keeps}
use Rattle.mp_team_states.proofs.explored_laws.teams_stay_explored.Goals as goal

pub returns : goal.returns
returns g c = record {
  start = λ team same is_team.
      let heuristic = heuristic_in _ g.met.H.Heuristic.small g.met.H.Heuristic.dead g.met.H.Heuristic.admissible team same is_team.tasks in
      (start_invariant team is_team heuristic).explored;
  events = λ tasks w next event are team sound small bounds leads explored.
      let heuristic = heuristic_of _ g.met.H.Heuristic.small g.met.H.Heuristic.dead g.met.H.Heuristic.admissible tasks are in
      (step_keeps _ tasks are heuristic w next event team sound small bounds leads).1 explored;
  runs = λ team schedule w same run.
      let heuristic = heuristic_in _ g.met.H.Heuristic.small g.met.H.Heuristic.dead g.met.H.Heuristic.admissible team same run.is_team.tasks in
      (run_invariant team run.is_team heuristic schedule w run.leads).explored;
}
