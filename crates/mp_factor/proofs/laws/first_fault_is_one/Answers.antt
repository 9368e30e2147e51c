use Rattle.mp_factor.proofs.FirstLemmas.{one_first}
use Rattle.mp_factor.proofs.laws.first_fault_is_one.Goals as goal

pub returns : goal.returns
returns c = one_first
