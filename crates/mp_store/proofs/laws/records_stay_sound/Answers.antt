use Rattle.mp_store.proofs.Sound.{closed_sound, empty_sound, marked_sound, offered_sound, popped_sound}
use Rattle.mp_store.proofs.laws.records_stay_sound.Goals as goal

pub returns-clause-empty : goal.returns-clause-empty
returns-clause-empty g c same = empty_sound same

pub returns-clause-offered : goal.returns-clause-offered
returns-clause-offered g c same new r = offered_sound same new r

pub returns-clause-closed : goal.returns-clause-closed
returns-clause-closed g c same n r = closed_sound same n r

pub returns-clause-popped : goal.returns-clause-popped
returns-clause-popped g c same r = popped_sound same r

pub returns-clause-sent : goal.returns-clause-sent
returns-clause-sent g c same n r = marked_sound same n r
