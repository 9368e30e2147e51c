use Rattle.mp_lifting.proofs.Basics.{◌≡◌, [], drop, list_any, is_listed}
use Rattle.mp_joint.specs.Grounding.{objects_of}
use Rattle.mp_lifting.proofs.privates.is_one_among.Given as goal

abbrev pub invariant-loop-term : goal.invariant-loop-term
invariant-loop-term l =
    list_any (λ o. is_listed o l.names) (objects_of [] [] (drop l.term-index l.terms))
    ≡ list_any (λ o. is_listed o l.names) (objects_of [] [] l.terms)
