use Rattle.mp_stands.proofs.Agreement.{tasks_agree}
use Rattle.mp_stands.proofs.tasks.tasks_of_grounded_teams_agree.Goals as goal

pub returns : goal.returns
returns c = tasks_agree
