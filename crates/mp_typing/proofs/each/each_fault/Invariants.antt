use Rattle.mp_typing.proofs.Basics.{◌≡◌, drop, flat_map, leftmost}
use Rattle.mp_typing.proofs.each.each_fault.Given as goal

abbrev pub invariant-loop-item : goal.invariant-loop-item
invariant-loop-item g l =
    leftmost l.first (flat_map (g.C.Check.faults l.check) (drop l.item-index l.items)) ≡ leftmost l.fn.least (flat_map (g.C.Check.faults l.fn.check) l.fn.items)
