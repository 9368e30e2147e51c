use Rattle.mp_world.proofs.Basics.{sym, subst, ◌+◌, ◌<◌, ◌^◌, ◌∙◌, length, same_Some}
use Rattle.mp_world.specs.AgentWords.{AgentRecord}
use Rattle.mp_world.specs.RoundRobin.{Round}
use Rattle.mp_world.proofs.Agents.{agree_numbered, member_of}
use Rattle.mp_world.proofs.Runs.{run_of_team}
use Rattle.mp_team_snapshots.proofs.Agreeing.{are_of_team}
use Rattle.mp_team_verdicts.proofs.Doing.{does_something}
use Rattle.mp_team_verdicts.proofs.rounds.rounds_do_something.Goals as goal

pub returns : goal.returns
returns c = λ team schedule events w next first run on there room round none.
    let of = member_of team.tasks (agree_numbered team.tasks run.is_team.tasks.agree) w (run_of_team team schedule w run.leads) 1 first there in
    let of_team = are_of_team team.tasks first.task run.is_team.tasks of.task in
    does_something team run.is_team first.task.publics of_team w next (record { schedule = schedule; ran = run.leads })
    (subst (λ es. Round team.value (length team.tasks) w es next) none round) on
    (λ other there_too.
    subst (λ (r : AgentRecord). r.snapshot.number + 1 < 2 ^ 60) (same_Some first other (sym there ∙ there_too)) room)
