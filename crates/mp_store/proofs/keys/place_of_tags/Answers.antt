use Rattle.mp_store.proofs.KeyRowLemmas.{grown_not}
use Rattle.mp_store.proofs.keys.place_of_tags.Goals as goal

pub returns-in-Some-clause-grown : goal.returns-in-Some-clause-grown
returns-in-Some-clause-grown c = grown_not c.args.tags.now.keys
