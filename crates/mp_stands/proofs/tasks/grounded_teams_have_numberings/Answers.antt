use Rattle.mp_stands.proofs.Numbering.{has_numbering}
use Rattle.mp_stands.proofs.tasks.grounded_teams_have_numberings.Goals as goal

pub returns : goal.returns
returns c = has_numbering
