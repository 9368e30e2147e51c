use Rattle.mp_team_snapshots.proofs.Agreeing.{are_of_team}
use Rattle.mp_team_verdicts.proofs.NineRounds.{none_of_nine}
use Rattle.mp_team_verdicts.proofs.rounds.searches_end_without_expansions.Goals as goal

pub returns : goal.returns
returns c = λ team t schedule w last first member run rounds there room.
    let of_team = are_of_team team.tasks t run.is_team.tasks member in
    none_of_nine team run.is_team t.publics of_team w last first (record { schedule = schedule; ran = run.leads }) rounds there room
