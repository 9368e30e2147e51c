use Rattle.mp_typing.proofs.RangeLemmas.{counted_on}
use Rattle.mp_typing.proofs.listed.all_below.Goals as goal

pub loop-number-preserved : goal.loop-number-preserved
loop-number-preserved c = counted_on c.loop-number.list c.push.new.self c.loop-number.number c.loop-number.invariant c.in_ok-push.ensures.ok
