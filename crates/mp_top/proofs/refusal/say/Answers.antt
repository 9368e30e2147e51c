use Rattle.mp_top.proofs.Said.{said}
use Rattle.mp_top.proofs.refusal.say.Goals as goal

pub returns : goal.returns
returns g c = said c.put_all.result _ _ _ _ _ c.put_all.ensures.ok c.put_all.ensures.err c.put_all.ensures.failed
