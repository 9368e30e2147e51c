use Rattle.mp_reach.proofs.PlanWitness.{plan_witness}
use Rattle.mp_world.specs.AgentWords.{task_cost}
use Rattle.mp_team_states.specs.TeamFound.{found_of}
use Rattle.mp_team_states.proofs.Flags.{flags_of_joint}
use Rattle.mp_team_states.proofs.Heuristics.{heuristic_in}
use Rattle.mp_team_states.proofs.Runs.{run_invariant}
use Rattle.mp_team_states.proofs.Witnesses.{shown_in}
use Rattle.mp_team_states.proofs.explored_laws.plans_leave_a_witness_in_runs.Goals as goal

pub returns : goal.returns
returns g c = record {
  found = λ team t schedule w plan same here run solves.
      let heuristic = heuristic_in _ g.met.H.Heuristic.small g.met.H.Heuristic.dead g.met.H.Heuristic.admissible team same run.is_team.tasks in
      let all = run_invariant team run.is_team heuristic schedule w run.leads in
      plan_witness team.tasks t (found_of w) plan (record { agree = run.is_team.tasks.agree; in_team = here }) all.explored solves;
  shown = λ team t schedule w plan same here run solves.
      let heuristic = heuristic_in _ g.met.H.Heuristic.small g.met.H.Heuristic.dead g.met.H.Heuristic.admissible team same run.is_team.tasks in
      let all = run_invariant team run.is_team heuristic schedule w run.leads in
      shown_in team.tasks run.is_team.tasks w all.team all.sound (flags_of_joint team.tasks run.is_team.tasks w all.team all.sound all.flags)
      (task_cost team.tasks plan)
      (plan_witness team.tasks t (found_of w) plan (record { agree = run.is_team.tasks.agree; in_team = here }) all.explored solves);
}
