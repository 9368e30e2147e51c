use Rattle.mp_sets.proofs.ComparedLemmas.{Decides-sized_eq, Decides-sized_cmp}
use Rattle.mp_sets.proofs.laws.equal_sets_are_one.Goals as goal

pub returns-clause-equality : goal.returns-clause-equality
returns-clause-equality c = Decides-sized_eq

pub returns-clause-order : goal.returns-clause-order
returns-clause-order c = Decides-sized_cmp
