use Rattle.mp_typing.proofs.FirstLemmas.{one_first}
use Rattle.mp_typing.proofs.laws.first_fault_is_one.Goals as goal

pub returns : goal.returns
returns c = one_first
