-- The names that a factor declares, in the order of the files. Their places are their numbers.
use Rattle.std.specs.Prelude.{List, map}
use Rattle.mp_forms.specs.declared.typed_values.Typed.{Typed}
use Rattle.mp_forms.specs.declared.factor.Factor.{Factor}
use Rattle.mp_typing.specs.ObjectList.{first_declared, object_list}
use Rattle.mp_joint.specs.Fact.{Text}
use Rattle.mp_lifting.specs.declared.vocabulary.Vocabulary.{Vocabulary}

-- the names of what is declared, each once, at its first place
abbrev pub declared_names : List Typed → List Text
declared_names declared = map (λ o. o.word.name) (first_declared declared)

abbrev pub vocabulary_of : Factor → Vocabulary
vocabulary_of factor =
    record {
      objects = map (λ o. o.word.name) (object_list factor.domain factor.problem);
      predicates = map (λ s. s.word.name) factor.domain.predicates;
      functions = map (λ s. s.word.name) factor.domain.functions;
    }
