use Rattle.mp_world.proofs.Agents.{agree_numbered, member_of}
use Rattle.mp_world.proofs.Runs.{run_of_team}
use Rattle.mp_team_states.proofs.Heuristics.{heuristic_in}
use Rattle.mp_team_verdicts.proofs.Verdicts.{verdict_right}
use Rattle.mp_team_verdicts.proofs.verdict_laws.verdicts_are_right.Goals as goal

pub returns : goal.returns
returns g c = λ team schedule w first verdict same run there given.
    let heuristic = heuristic_in _ g.met.H.Heuristic.small g.met.H.Heuristic.dead g.met.H.Heuristic.admissible team same run.is_team.tasks in
    let of = member_of team.tasks (agree_numbered team.tasks run.is_team.tasks.agree) w (run_of_team team schedule w run.leads) 1 first there in
    verdict_right team run.is_team heuristic first.task of.task schedule w run.leads first there verdict given
