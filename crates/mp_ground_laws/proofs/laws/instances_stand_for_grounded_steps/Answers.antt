use Rattle.mp_ground_laws.proofs.Grounding.{instances_stand}
use Rattle.mp_ground_laws.proofs.laws.instances_stand_for_grounded_steps.Goals as goal

pub returns : goal.returns
returns c = instances_stand
