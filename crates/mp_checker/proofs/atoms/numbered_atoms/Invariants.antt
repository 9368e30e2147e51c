use Rattle.std.proofs.Common.{◌≡◌, map, take}
use Rattle.mp_lifting.specs.Privates.{private_in}
use Rattle.mp_checker.specs.Numbering.{numbered_atom}
use Rattle.mp_checker.proofs.atoms.numbered_atoms.Given as goal

abbrev pub invariant-loop-atom : goal.invariant-loop-atom
invariant-loop-atom l = l.made ≡ map (numbered_atom l.names (private_in l.privates) l.params) (take l.atom-index l.atoms)
