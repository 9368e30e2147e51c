use Rattle.mp_lifted.proofs.Basics.{◌≡◌, ◌++◌, map, take}
use Rattle.mp_lifted.specs.Atoms.{object_at as object_of_term}
use Rattle.mp_lifted.proofs.bound_atoms.add_objects.Given as goal

abbrev pub invariant-loop-term : goal.invariant-loop-term
invariant-loop-term l = l.out.items ≡ l.fn.out.items ++ map (object_of_term l.objects) (take l.term-index l.term-items)
