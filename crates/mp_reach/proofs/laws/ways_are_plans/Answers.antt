use Rattle.mp_reach.proofs.WaysArePlans.{way_plan}
use Rattle.mp_reach.proofs.laws.ways_are_plans.Goals as goal

pub returns : goal.returns
returns c = way_plan
