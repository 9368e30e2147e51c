use Rattle.mp_lifting.proofs.Basics.{◌≡◌, ◌++◌, map, take, filter, Typed}
use Rattle.mp_lifting.proofs.privates.add_private_objects.Given as goal

abbrev pub invariant-loop-object : goal.invariant-loop-object
invariant-loop-object l =
    l.table ≡ l.fn.table ++ map (λ (o : Typed). o.word.name) (filter (λ (o : Typed). o.private) (take l.object-index l.objects))
