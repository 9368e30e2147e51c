use Rattle.mp_ground_laws.proofs.Listed.{listed}
use Rattle.mp_ground_laws.proofs.laws.numbered_facts_list_named_facts.Goals as goal

pub returns : goal.returns
returns c = listed
