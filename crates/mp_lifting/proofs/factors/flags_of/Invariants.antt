use Rattle.mp_lifting.proofs.Basics.{◌≡◌, map, take, Signature, is_of}
use Rattle.mp_lifting.proofs.factors.flags_of.Given as goal

abbrev pub invariant-loop-signature : goal.invariant-loop-signature
invariant-loop-signature l =
    l.flags ≡ map (λ (s : Signature). is_of l.shown.privates l.shown.own l.shown.shown s.word.name) (take l.signature-index l.predicates)
