use Rattle.mp_lifting.proofs.Basics.{◌≡◌, map, take, number_in}
use Rattle.mp_forms.specs.Limits.{name_of_term}
use Rattle.mp_lifting.proofs.lifted_atoms.number_atom.Given as goal

abbrev pub invariant-loop-term : goal.invariant-loop-term
invariant-loop-term l = l.args ≡ map (number_in l.vocabulary.objects) (map name_of_term (take l.term-index l.atom.terms))
