use Rattle.mp_store.proofs.BestLemmas.{best_is_last, best_last, none_best}
use Rattle.mp_store.proofs.laws.best_entry_is_the_last.Goals as goal

pub returns-clause-last : goal.returns-clause-last
returns-clause-last g c same key r n e laws falling last = best_last same laws key r n e falling last

pub returns-clause-best : goal.returns-clause-best
returns-clause-best g c same key r n laws falling found = best_is_last same laws key r falling n found

pub returns-clause-none : goal.returns-clause-none
returns-clause-none g c same key r found = none_best same key r found
