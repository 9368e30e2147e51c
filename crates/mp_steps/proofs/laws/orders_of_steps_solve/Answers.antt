use Rattle.mp_steps.proofs.PlanLemmas.{still_solves, same_cost}
use Rattle.mp_steps.proofs.laws.orders_of_steps_solve.Goals as goal

pub returns-clause-solves : goal.returns-clause-solves
returns-clause-solves c = still_solves

pub returns-clause-costs : goal.returns-clause-costs
returns-clause-costs c = same_cost
