use Rattle.mp_ground_laws.proofs.Tried.{same_tries}
use Rattle.mp_ground_laws.proofs.laws.tries_are_those_by_names.Goals as goal

pub returns : goal.returns
returns c = same_tries
