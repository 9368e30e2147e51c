-- The names that stand in the facts of a factor's files.
use Rattle.std.specs.Prelude.{List, ◌++◌, map}
use Rattle.std.specs.List.{flat_map}
use Rattle.mp_forms.specs.declared.schema_values.Schema.{Schema}
use Rattle.mp_forms.specs.declared.init_values.Value.{Value}
use Rattle.mp_forms.specs.declared.factor.Factor.{Factor}
use Rattle.mp_forms.specs.Limits.{names_of_atom}
use Rattle.mp_joint.specs.Fact.{Text}

-- in the effects of an action
abbrev pub names_of_schema : Schema → List Text
names_of_schema schema = flat_map names_of_atom schema.add ++ flat_map names_of_atom schema.del

abbrev pub names_of_value : Value → List Text
names_of_value value = names_of_atom value.of

-- those of the objects, and those that stand in effects, in initial facts and in values
abbrev pub names_of_factor : Factor → List Text
names_of_factor factor =
    map (λ o. o.word.name) factor.domain.constants
    ++ map (λ o. o.word.name) factor.problem.objects
    ++ flat_map names_of_schema factor.domain.schemas
    ++ flat_map names_of_atom factor.problem.init
    ++ flat_map names_of_value factor.problem.values
