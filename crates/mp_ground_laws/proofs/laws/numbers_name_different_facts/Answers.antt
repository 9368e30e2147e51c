use Rattle.mp_ground_laws.proofs.Facts.{different_facts}
use Rattle.mp_ground_laws.proofs.Parts.{parts_of}
use Rattle.mp_ground_laws.proofs.laws.numbers_name_different_facts.Goals as goal

pub returns : goal.returns
returns c = λ agent factor a b h first second same. different_facts agent factor a b (parts_of factor h.no_fault) first second same
