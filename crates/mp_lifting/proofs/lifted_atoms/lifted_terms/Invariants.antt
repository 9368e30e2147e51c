use Rattle.mp_lifting.proofs.Basics.{◌≡◌, map, take}
use Rattle.mp_lifting.specs.Lifting.{lifted_term}
use Rattle.mp_lifting.proofs.lifted_atoms.lifted_terms.Given as goal

abbrev pub invariant-loop-term : goal.invariant-loop-term
invariant-loop-term l = l.made ≡ map (lifted_term l.vocabulary l.params) (take l.term-index l.terms)
