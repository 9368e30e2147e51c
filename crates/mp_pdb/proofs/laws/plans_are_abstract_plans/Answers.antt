use Rattle.mp_pdb.specs.Laws.Bounds.{abstract_plan}
use Rattle.mp_pdb.proofs.laws.plans_are_abstract_plans.Goals as goal

pub returns : goal.returns
returns c = abstract_plan
