use Rattle.mp_team_snapshots.proofs.Agreeing.{agreeing_team}
use Rattle.mp_team_snapshots.proofs.snapshots.tasks_that_agree_are_of_a_team.Goals as goal

pub returns : goal.returns
returns c = agreeing_team
