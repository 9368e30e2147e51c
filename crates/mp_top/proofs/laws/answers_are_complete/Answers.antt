use Rattle.mp_top.proofs.Complete.{answered}
use Rattle.mp_top.proofs.laws.answers_are_complete.Goals as goal

pub returns : goal.returns
returns c = answered
