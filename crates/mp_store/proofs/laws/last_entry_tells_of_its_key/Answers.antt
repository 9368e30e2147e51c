use Rattle.mp_store.proofs.BestLemmas.{known_last, last_lives}
use Rattle.mp_store.proofs.laws.last_entry_tells_of_its_key.Goals as goal

pub returns-clause-cost : goal.returns-clause-cost
returns-clause-cost g c same key r n e laws falling last = known_last same laws key r n e falling last

pub returns-clause-lives : goal.returns-clause-lives
returns-clause-lives g c same key r n e laws sound last = last_lives same laws key r n e sound.falling last sound.gave_way
