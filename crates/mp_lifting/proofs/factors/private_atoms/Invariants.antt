use Rattle.mp_lifting.proofs.Basics.{◌≡◌, map, take, filter, ground_atom}
use Rattle.mp_lifting.specs.Privates.{is_private_atom, private_in}
use Rattle.mp_lifting.proofs.factors.private_atoms.Given as goal

abbrev pub invariant-loop-atom : goal.invariant-loop-atom
invariant-loop-atom l =
    l.made ≡ map (ground_atom l.vocabulary) (filter (is_private_atom (private_in l.privates)) (take l.atom-index l.atoms))
