use Rattle.mp_lmcut.specs.Laws.Rounds.{cuts_are_paid as paid}
use Rattle.mp_lmcut.proofs.laws.cuts_are_paid.Goals as goal

pub returns : goal.returns
returns c = paid
