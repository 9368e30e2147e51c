use Rattle.mp_views.proofs.Basics.{◌≡◌, [], map, take, filter, is_none, NamedFact, fact_of, fact_text}
use Rattle.mp_lifting.specs.Privates.{private_in}
use Rattle.mp_views.proofs.open.public_facts.Given as goal

abbrev pub invariant-loop-atom : goal.invariant-loop-atom
invariant-loop-atom l =
    l.out.items ≡ map fact_text (filter (λ (f : NamedFact). is_none f.owner)
    (map (fact_of 1 (private_in l.privates) [] []) (take l.atom-index l.atoms)))
