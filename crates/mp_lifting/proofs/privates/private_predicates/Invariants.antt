use Rattle.mp_lifting.proofs.Basics.{◌≡◌, map, take, filter, Signature}
use Rattle.mp_lifting.proofs.privates.private_predicates.Given as goal

abbrev pub invariant-loop-signature : goal.invariant-loop-signature
invariant-loop-signature l =
    l.table ≡ map (λ (s : Signature). s.word.name) (filter (λ (s : Signature). s.private) (take l.signature-index l.predicates))
