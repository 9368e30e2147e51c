use Rattle.mp_typing.proofs.Basics.{◌≡◌, drop, pointwise, is_same}
use Rattle.mp_typing.proofs.repeats.is_same_list.Given as goal

abbrev pub invariant-loop-i : goal.invariant-loop-i
invariant-loop-i l = pointwise is_same (drop l.i l.a) (drop l.i l.b) ≡ pointwise is_same l.a l.b
