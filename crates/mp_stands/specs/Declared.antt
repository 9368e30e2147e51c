-- Names that a factor declares.
use Rattle.std.specs.Prelude.{◌≡◌, true, List}
use Rattle.std.specs.List.{list_all}
use Rattle.mp_forms.specs.declared.factor.Factor.{Factor}
use Rattle.mp_joint.specs.Fact.{Text, is_listed}
use Rattle.mp_lifting.specs.Vocabulary.{vocabulary_of}

-- a predicate of the factor, and objects of it
pub record AreDeclared (factor : Factor) (predicate : Text) (args : List Text) : Type 0 where
  pub predicate_is : is_listed predicate (vocabulary_of factor).predicates ≡ true
  pub args_are : list_all (λ a. is_listed a (vocabulary_of factor).objects) args ≡ true
