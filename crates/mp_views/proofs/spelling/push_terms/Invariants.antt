use Rattle.mp_views.proofs.Basics.{◌≡◌, [], ◌++◌, take, folded, objects_of, spaced}
use Rattle.mp_views.proofs.spelling.push_terms.Given as goal

abbrev pub invariant-loop-term : goal.invariant-loop-term
invariant-loop-term l =
    folded l.text.items ≡ folded l.fn.text.items ++ spaced (objects_of [] [] (take l.term-index l.terms))
