use Rattle.mp_team_snapshots.proofs.Agreeing.{are_of_team}
use Rattle.mp_team_verdicts.proofs.Decided.{few_rounds}
use Rattle.mp_team_verdicts.proofs.rounds.searches_take_few_rounds.Goals as goal

pub returns : goal.returns
returns c = λ team t schedule rounds w last first member run searched there room.
    let of_team = are_of_team team.tasks t run.is_team.tasks member in
    few_rounds team run.is_team t.publics of_team rounds w last first (record { schedule = schedule; ran = run.leads })
    searched there room
