use Rattle.mp_reach.proofs.WorkedTeam.{begun_is_explored, forgotten_is_not}
use Rattle.mp_reach.proofs.example.worked_team_begins_explored.Goals as goal

pub returns : goal.returns
returns c = record { begun = begun_is_explored; forgotten = forgotten_is_not }
