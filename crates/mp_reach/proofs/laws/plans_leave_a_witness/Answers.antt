use Rattle.mp_reach.proofs.PlanWitness.{plan_witness}
use Rattle.mp_reach.proofs.laws.plans_leave_a_witness.Goals as goal

pub returns : goal.returns
returns g c = plan_witness
