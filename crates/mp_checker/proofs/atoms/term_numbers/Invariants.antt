use Rattle.std.proofs.Common.{◌≡◌, map, take}
use Rattle.mp_lifting.specs.Privates.{private_in}
use Rattle.mp_checker.specs.Numbering.{term_number}
use Rattle.mp_checker.proofs.atoms.term_numbers.Given as goal

abbrev pub invariant-loop-term : goal.invariant-loop-term
invariant-loop-term l = l.made ≡ map (term_number l.names (private_in l.privates) l.params) (take l.term-index l.terms)
