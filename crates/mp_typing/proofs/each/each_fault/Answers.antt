use Rattle.mp_typing.proofs.Basics.{goes_on, is_earlier}
use Rattle.mp_typing.proofs.each.each_fault.Goals as goal

pub loop-item-preserved : goal.loop-item-preserved
loop-item-preserved g c =
    goes_on is_earlier (g.C.Check.faults c.args.check.now) _ _ _ c.args.items.now c.loop-item.item-index c.item-item.result
    c.loop-item-test.true c.item-item.is c.in_ok-first.ensures c.loop-item.invariant
