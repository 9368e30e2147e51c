use Rattle.mp_bindings.proofs.OrderLemmas.{found_rise}
use Rattle.mp_bindings.proofs.laws.bindings_rise.Goals as goal

pub returns : goal.returns
returns c = λ test members rise. found_rise test members rise
