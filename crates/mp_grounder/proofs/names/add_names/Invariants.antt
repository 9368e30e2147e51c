use Rattle.mp_grounder.proofs.Basics.{◌≡◌, ◌++◌, map, take, Typed}
use Rattle.mp_grounder.proofs.names.add_names.Given as goal

abbrev pub invariant-loop-object : goal.invariant-loop-object
invariant-loop-object l =
    map (λ n. n.now) l.names.items ≡ map (λ n. n.now) l.fn.names.items ++ map (λ (o : Typed). o.word.name) (take l.object-index l.objects)
