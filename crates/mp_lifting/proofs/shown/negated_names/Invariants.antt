use Rattle.mp_lifting.proofs.Basics.{◌≡◌, take, flat_map, Schema, negated_atoms, predicates_of}
use Rattle.mp_lifting.proofs.shown.negated_names.Given as goal

abbrev pub invariant-loop-schema : goal.invariant-loop-schema
invariant-loop-schema l =
    l.table ≡ flat_map (λ (s : Schema). predicates_of (negated_atoms s.pre)) (take l.schema-index l.schemas)
