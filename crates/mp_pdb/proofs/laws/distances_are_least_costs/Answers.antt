use Rattle.mp_pdb.specs.Laws.Least.{is_least}
use Rattle.mp_pdb.proofs.laws.distances_are_least_costs.Goals as goal

pub returns : goal.returns
returns g c = is_least
