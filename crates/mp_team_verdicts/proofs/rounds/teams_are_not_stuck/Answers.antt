use Rattle.mp_world.proofs.Basics.{sym, subst, ◌+◌, ◌<◌, ◌^◌, ◌∙◌, same_Some}
use Rattle.mp_world.specs.AgentWords.{AgentRecord}
use Rattle.mp_world.proofs.Agents.{agree_numbered, member_of}
use Rattle.mp_world.proofs.Runs.{run_of_team}
use Rattle.mp_team_snapshots.proofs.Agreeing.{are_of_team}
use Rattle.mp_team_verdicts.proofs.GoingOn.{goes_on}
use Rattle.mp_team_verdicts.proofs.rounds.teams_are_not_stuck.Goals as goal

pub returns : goal.returns
returns c = λ team schedule w first run on there room.
    let of = member_of team.tasks (agree_numbered team.tasks run.is_team.tasks.agree) w (run_of_team team schedule w run.leads) 1 first there in
    let of_team = are_of_team team.tasks first.task run.is_team.tasks of.task in
    goes_on team run.is_team first.task.publics of_team w (record { schedule = schedule; ran = run.leads }) on
    (λ other there_too.
    subst (λ (r : AgentRecord). r.snapshot.number + 1 < 2 ^ 60) (same_Some first other (sym there ∙ there_too)) room)
