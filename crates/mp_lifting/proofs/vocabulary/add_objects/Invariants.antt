use Rattle.mp_lifting.proofs.Basics.{◌≡◌, ◌++◌, List, take, Typed, declared_names}
use Rattle.mp_lifting.proofs.vocabulary.add_objects.Given as goal

abbrev pub invariant-loop-object : goal.invariant-loop-object
invariant-loop-object l = (before : List Typed) → l.fn.table ≡ declared_names before
    → l.table ≡ declared_names (before ++ take l.object-index l.objects)
