use Rattle.std.proofs.Common.{◌≡◌, take}
use Rattle.mp_joint.specs.Grounding.{objects_of}
use Rattle.mp_checker.proofs.told.objects_of.Given as goal

abbrev pub invariant-loop-term : goal.invariant-loop-term
invariant-loop-term l = l.names ≡ objects_of l.params l.objects (take l.term-index l.terms)
