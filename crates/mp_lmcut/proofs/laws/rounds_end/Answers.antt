use Rattle.mp_lmcut.proofs.EndLemmas.{rounds_end as ended}
use Rattle.mp_lmcut.proofs.laws.rounds_end.Goals as goal

pub returns : goal.returns
returns c = ended
