-- What a factor declares under a name.
use Rattle.std.specs.Prelude.{ℕ, Bool, List, ◌++◌, length, Option, find}
use Rattle.std.specs.List.{list_any}
use Rattle.std.specs.Option.{option_map}
use Rattle.std.specs.Str.{bytes_eq}
use Rattle.mp_forms.specs.declared.typed_values.Typed.{Typed}
use Rattle.mp_forms.specs.declared.signature_values.Signature.{Signature}
use Rattle.mp_forms.specs.declared.factor.Factor.{Factor}
use Rattle.mp_forms.specs.FactorParts.{DomainParts, ProblemParts}

-- the factor of two files
abbrev pub factor_of : DomainParts → ProblemParts → Factor
factor_of domain problem = record { domain = domain; problem = problem }

-- its objects: the constants of the domain and then the objects of the problem
abbrev pub objects_of : Factor → List Typed
objects_of factor = factor.domain.constants ++ factor.problem.objects

-- whether one of these objects has a name
unfoldable pub is_object : List Typed → List ℕ → Bool
is_object objects name = list_any (λ o. bytes_eq o.word.name name) objects

-- the number of parameters of the first of these predicates, or functions, that has a name
unfoldable pub arity_of : List Signature → List ℕ → Option ℕ
arity_of signatures name = option_map (λ s. length s.params) (find (λ s. bytes_eq s.word.name name) signatures)
