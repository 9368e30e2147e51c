use Rattle.mp_store.proofs.Growing.{sent_marked, sent_new, sent_offered, sent_popped}
use Rattle.mp_store.proofs.laws.sent_states_stay_sent.Goals as goal

pub returns-clause-new : goal.returns-clause-new
returns-clause-new g c same n e r = sent_new same n e r

pub returns-clause-sent : goal.returns-clause-sent
returns-clause-sent g c same n r key cost = sent_marked same key cost n r

pub returns-clause-offered : goal.returns-clause-offered
returns-clause-offered g c same new r key cost = sent_offered same key cost new r

pub returns-clause-popped : goal.returns-clause-popped
returns-clause-popped g c same r key cost = sent_popped same key cost r
