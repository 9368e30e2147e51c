use Rattle.mp_team_states.proofs.Flags.{flags_of_joint}
use Rattle.mp_team_states.proofs.Heuristics.{heuristic_in, heuristic_of}
use Rattle.mp_team_states.proofs.Runs.{run_invariant, start_invariant, step_keeps}
use Rattle.mp_team_states.proofs.explored_laws.estimates_and_flags_are_right.Goals as goal

pub returns : goal.returns
returns g c = record {
  start = λ team same is_team.
      let heuristic = heuristic_in _ g.met.H.Heuristic.small g.met.H.Heuristic.dead g.met.H.Heuristic.admissible team same is_team.tasks in
      (start_invariant team is_team heuristic).bounds;
  events = λ tasks w next event are team sound small leads bounds.
      let heuristic = heuristic_of _ g.met.H.Heuristic.small g.met.H.Heuristic.dead g.met.H.Heuristic.admissible tasks are in
      (step_keeps _ tasks are heuristic w next event team sound small bounds leads).0;
  runs = λ team schedule w same run.
      let heuristic = heuristic_in _ g.met.H.Heuristic.small g.met.H.Heuristic.dead g.met.H.Heuristic.admissible team same run.is_team.tasks in
      (run_invariant team run.is_team heuristic schedule w run.leads).bounds;
  flags = λ team schedule w same run.
      let heuristic = heuristic_in _ g.met.H.Heuristic.small g.met.H.Heuristic.dead g.met.H.Heuristic.admissible team same run.is_team.tasks in
      let all = run_invariant team run.is_team heuristic schedule w run.leads in
      flags_of_joint team.tasks run.is_team.tasks w all.team all.sound all.flags;
}
