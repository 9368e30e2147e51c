use Rattle.mp_lifting.proofs.Basics.{◌≡◌, map, take, Signature}
use Rattle.mp_lifting.proofs.vocabulary.names_of.Given as goal

abbrev pub invariant-loop-signature : goal.invariant-loop-signature
invariant-loop-signature l = l.table ≡ map (λ (s : Signature). s.word.name) (take l.signature-index l.signatures)
