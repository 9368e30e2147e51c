use Rattle.mp_team_snapshots.proofs.Agreeing.{are_of_team}
use Rattle.mp_team_verdicts.proofs.InRuns.{ends_so_far}
use Rattle.mp_team_verdicts.proofs.OneStage.{one_stage}
use Rattle.mp_team_verdicts.proofs.Stages.{plan_if_proved}
use Rattle.mp_team_verdicts.proofs.walks.walks_are_sound.Goals as goal

pub returns-clause-stages : goal.returns-clause-stages
returns-clause-stages c = λ team schedule w t member run.
    let of_team = are_of_team team.tasks t run.is_team.tasks member in
    let ends = ends_so_far team run.is_team t.publics of_team schedule w run.leads in
    (ends.stage, ends.is)

pub returns-clause-proved : goal.returns-clause-proved
returns-clause-proved c = λ publics w stage first at there. plan_if_proved publics w stage first at there

pub returns-clause-one : goal.returns-clause-one
returns-clause-one c = λ publics w a b at also. one_stage publics w a b at also
