use Rattle.mp_factor.proofs.Basics.{refl}
use Rattle.mp_factor.proofs.PartLemmas.{paired_as}
use Rattle.mp_factor.proofs.shape.read_signatures.Goals as goal

pub returns : goal.returns
returns c =
    paired_as _ _ _ _ _ c.pair.ensures (paired_as _ _ _ _ _ c.pair-predicates.ensures refl c.in_ok-read_predicates.ensures) c.in_ok-read_functions.ensures
