use Rattle.mp_lifting.proofs.Basics.{◌≡◌, ◌++◌, take, flat_map, Schema, predicates_of}
use Rattle.mp_lifting.proofs.shown.changed_names.Given as goal

abbrev pub invariant-loop-schema : goal.invariant-loop-schema
invariant-loop-schema l =
    l.table ≡ flat_map (λ (s : Schema). predicates_of s.add ++ predicates_of s.del) (take l.schema-index l.schemas)
