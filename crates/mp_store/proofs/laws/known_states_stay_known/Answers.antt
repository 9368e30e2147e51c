use Rattle.mp_store.proofs.Growing.{known_marked, known_new, known_offered, known_popped}
use Rattle.mp_store.proofs.laws.known_states_stay_known.Goals as goal

pub returns-clause-new : goal.returns-clause-new
returns-clause-new g c same new r = known_new same new r

pub returns-clause-offered : goal.returns-clause-offered
returns-clause-offered g c same new r key cost = known_offered same key cost new r

pub returns-clause-popped : goal.returns-clause-popped
returns-clause-popped g c same r key cost = known_popped same key cost r

pub returns-clause-sent : goal.returns-clause-sent
returns-clause-sent g c same n r key cost = known_marked same key cost n r
