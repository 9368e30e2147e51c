use Rattle.mp_order.proofs.Solving.{ordered_solves}
use Rattle.mp_order.proofs.laws.ordered_plans_solve.Goals as goal

pub returns : goal.returns
returns c = ordered_solves
