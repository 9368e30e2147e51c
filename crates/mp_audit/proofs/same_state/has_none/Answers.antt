use Rattle.mp_audit.proofs.SameLemmas.{none_from, some_from}
use Rattle.mp_audit.proofs.same_state.has_none.Goals as goal

pub returns-in-Some : goal.returns-in-Some
returns-in-Some c = some_from c.args.set.now.members c.args.from _ c.in-Some.ensures.some

pub returns-in-None : goal.returns-in-None
returns-in-None c = none_from c.args.set.now.members c.args.from c.in-None.ensures.none
