use Rattle.mp_views.proofs.Basics.{◌≡◌, take, not, filter, flat_map, Schema, is_listed, negated_atoms, predicates_of}
use Rattle.mp_views.proofs.open.public_avoided.Given as goal

abbrev pub invariant-loop-schema : goal.invariant-loop-schema
invariant-loop-schema l =
    l.out.items ≡ filter (λ n. not (is_listed n l.privates))
    (flat_map (λ (s : Schema). predicates_of (negated_atoms s.pre)) (take l.schema-index l.schemas))
