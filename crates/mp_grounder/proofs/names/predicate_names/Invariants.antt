use Rattle.mp_grounder.proofs.Basics.{◌≡◌, map, take}
use Rattle.mp_forms.specs.declared.signature_values.Signature.{Signature}
use Rattle.mp_grounder.proofs.names.predicate_names.Given as goal

abbrev pub invariant-loop-signature : goal.invariant-loop-signature
invariant-loop-signature l = map (λ n. n.now) l.names.items ≡ map (λ (s : Signature). s.word.name) (take l.signature-index l.signatures)
