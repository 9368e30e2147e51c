use Rattle.mp_reach.proofs.PlanWitness.{plan_way}
use Rattle.mp_reach.proofs.laws.plans_have_ways.Goals as goal

pub returns : goal.returns
returns c = plan_way
