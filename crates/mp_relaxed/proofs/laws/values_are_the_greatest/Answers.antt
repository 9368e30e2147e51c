use Rattle.mp_relaxed.specs.Laws.Rounds.{are_greatest}
use Rattle.mp_relaxed.proofs.laws.values_are_the_greatest.Goals as goal

pub returns : goal.returns
returns c = are_greatest
