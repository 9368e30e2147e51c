use Rattle.std.proofs.Common.{◌≡◌, map, take}
use Rattle.mp_lifting.specs.Privates.{private_in}
use Rattle.mp_checker.specs.Numbering.{numbered_literal}
use Rattle.mp_checker.proofs.atoms.numbered_literals.Given as goal

abbrev pub invariant-loop-literal : goal.invariant-loop-literal
invariant-loop-literal l = l.made ≡ map (numbered_literal l.names (private_in l.privates) l.params) (take l.literal-index l.literals)
