use Rattle.mp_world.proofs.Agents.{agree_numbered, member_of}
use Rattle.mp_world.proofs.Runs.{run_of_team}
use Rattle.mp_team_snapshots.proofs.Agreeing.{are_of_team}
use Rattle.mp_team_verdicts.proofs.Numbers.{number_of_events}
use Rattle.mp_team_verdicts.proofs.rounds.snapshots_are_events.Goals as goal

pub returns : goal.returns
returns c = λ team schedule w first run there.
    let of = member_of team.tasks (agree_numbered team.tasks run.is_team.tasks.agree) w (run_of_team team schedule w run.leads) 1 first there in
    let of_team = are_of_team team.tasks first.task run.is_team.tasks of.task in
    number_of_events team run.is_team first.task.publics of_team schedule w first run.leads there
