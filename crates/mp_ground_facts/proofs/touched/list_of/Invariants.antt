use Rattle.mp_ground_facts.proofs.Basics.{◌≡◌}
use Rattle.std.proofs.Common.{take}
use Rattle.mp_ground_facts.proofs.touched.list_of.Given as goal

abbrev pub invariant-loop-object : goal.invariant-loop-object
invariant-loop-object l = l.list ≡ take l.object-index l.objects
