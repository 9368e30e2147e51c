use Rattle.mp_ground_laws.proofs.Basics.{◌∙◌}
use Rattle.mp_ground_laws.proofs.Starts.{public_is}
use Rattle.mp_ground_laws.proofs.laws.public_facts_belong_to_nobody.Goals as goal

pub returns : goal.returns
returns c = λ agent factor view f is. is.public ∙ public_is agent factor view _ is.range
