use Rattle.mp_factor.proofs.Basics.{refl}
use Rattle.mp_factor.proofs.PartLemmas.{paired_as}
use Rattle.mp_factor.proofs.shape.read_constants.Goals as goal

pub returns : goal.returns
returns c =
    paired_as _ _ _ _ _ c.pair.ensures (paired_as _ _ _ _ _ c.pair-types.ensures refl c.in_ok-read_listed.ensures) c.in_ok-read_listed-2.ensures
