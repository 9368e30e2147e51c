use Rattle.mp_world.proofs.Runs.{run_of_team}
use Rattle.mp_team_states.proofs.RoomCounts.{few_expansions}
use Rattle.mp_team_verdicts.proofs.Few.{few_kept, holds_so_far, keeps_few}
use Rattle.mp_team_verdicts.proofs.walks.entries_stay_few.Goals as goal

pub returns-clause-each : goal.returns-clause-each
returns-clause-each c = λ team schedule w run.
    keeps_few team.tasks run.is_team.tasks w (run_of_team team schedule w run.leads) (holds_so_far team run.is_team schedule w run.leads)

pub returns-clause-all : goal.returns-clause-all
returns-clause-all c = λ team schedule w run.
    few_kept team.tasks run.is_team.tasks w (run_of_team team schedule w run.leads) (holds_so_far team run.is_team schedule w run.leads)

pub returns-clause-paths : goal.returns-clause-paths
returns-clause-paths c = λ team schedule w run.
    let holds = holds_so_far team run.is_team schedule w run.leads in
    (holds.short, few_expansions team.tasks run.is_team.tasks w (run_of_team team schedule w run.leads) holds.sound)
