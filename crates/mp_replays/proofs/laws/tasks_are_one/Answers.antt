use Rattle.mp_replays.proofs.OneTeam.{one_tasks}
use Rattle.mp_replays.proofs.laws.tasks_are_one.Goals as goal

pub returns : goal.returns
returns c = λ team t u checked of also. one_tasks c.renaming_keeps_tasks.ensures team checked t u of also
