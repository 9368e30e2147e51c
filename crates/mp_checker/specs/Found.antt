-- The action of a factor that has a name.
use Rattle.std.specs.Prelude.{◌≡◌, Some, find}
use Rattle.std.specs.Str.{bytes_eq}
use Rattle.mp_forms.specs.Limits.{SchemaFits}
use Rattle.mp_forms.specs.declared.schema_values.Schema.{Schema}
use Rattle.mp_joint.specs.Fact.{Text}
use Rattle.mp_checker.specs.declared.numbered.NumberedAction.{NumberedAction}
use Rattle.mp_checker.specs.AgentView.{AgentView, Covers, names_of, factor_of}
use Rattle.mp_checker.specs.Numbering.{numbered_action}
use Rattle.mp_checker.specs.Words.{names_of_schema}

-- it is the first one of that name, as it is written and in numbers
pub record IsActionOf (view : AgentView) (name : Text) (schema : Schema) (action : NumberedAction) : Type 0 where
  pub first : find (λ s. bytes_eq s.word.name name) (factor_of view).domain.schemas ≡ Some schema
  pub numbered : action ≡ numbered_action (names_of view) (factor_of view) schema
  pub fits : SchemaFits schema
  pub covers : Covers (names_of view) (names_of_schema schema)
