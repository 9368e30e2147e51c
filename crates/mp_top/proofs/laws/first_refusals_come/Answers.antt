use Rattle.mp_top.proofs.FirstTold.{first_told}
use Rattle.mp_top.proofs.laws.first_refusals_come.Goals as goal

pub returns : goal.returns
returns c = first_told c.one_first.ensures.one c.one_first.ensures.none
