use Rattle.std.proofs.Common.{◌≡◌, map, take}
use Rattle.mp_forms.specs.declared.schema_values.Schema.{Schema}
use Rattle.mp_checker.proofs.factor.names_of_actions.Given as goal

abbrev pub invariant-loop-schema : goal.invariant-loop-schema
invariant-loop-schema l = l.names ≡ map (λ (s : Schema). s.word.name) (take l.schema-index l.schemas)
