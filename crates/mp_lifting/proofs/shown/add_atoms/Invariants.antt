use Rattle.mp_lifting.proofs.Basics.{◌≡◌, ◌++◌, take, predicates_of}
use Rattle.mp_lifting.proofs.shown.add_atoms.Given as goal

abbrev pub invariant-loop-atom : goal.invariant-loop-atom
invariant-loop-atom l = l.table ≡ l.fn.table ++ predicates_of (take l.atom-index l.atoms)
