use Rattle.mp_team_states.proofs.Heuristics.{heuristic_in}
use Rattle.mp_team_verdicts.proofs.Answers.{answer_right}
use Rattle.mp_team_verdicts.proofs.verdict_laws.answers_are_right.Goals as goal

pub returns : goal.returns
returns g c = λ team t schedule w same member run finished.
    let heuristic = heuristic_in _ g.met.H.Heuristic.small g.met.H.Heuristic.dead g.met.H.Heuristic.admissible team same run.is_team.tasks in
    answer_right team run.is_team heuristic t member schedule w run.leads finished
