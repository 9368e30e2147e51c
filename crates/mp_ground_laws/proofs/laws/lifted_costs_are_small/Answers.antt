use Rattle.mp_ground_laws.proofs.SmallCosts.{small_costs}
use Rattle.mp_ground_laws.proofs.laws.lifted_costs_are_small.Goals as goal

pub returns : goal.returns
returns c = small_costs
