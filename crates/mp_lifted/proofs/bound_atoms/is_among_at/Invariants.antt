use Rattle.mp_lifted.proofs.Basics.{◌≡◌, drop, is_among}
use Rattle.mp_lifted.specs.Atoms.{atom_at, atoms_at}
use Rattle.mp_lifted.proofs.bound_atoms.is_among_at.Given as goal

abbrev pub invariant-loop-other : goal.invariant-loop-other
invariant-loop-other l = is_among (atom_at l.objects l.atom) (atoms_at l.objects (drop l.other-index l.others)) ≡ is_among (atom_at l.objects l.atom) (atoms_at l.objects l.others)
