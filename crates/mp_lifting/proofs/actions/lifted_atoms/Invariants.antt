use Rattle.mp_lifting.proofs.Basics.{◌≡◌, map, take, lifted_atom}
use Rattle.mp_lifting.proofs.actions.lifted_atoms.Given as goal

abbrev pub invariant-loop-atom : goal.invariant-loop-atom
invariant-loop-atom l = l.made ≡ map (lifted_atom l.vocabulary l.params) (take l.atom-index l.atoms)
