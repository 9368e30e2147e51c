-- The objects of a factor in object order.
use Rattle.std.specs.Prelude.{ℕ, not, List, [], ◌∷◌, ◌++◌, filter}
use Rattle.std.specs.Str.{bytes_eq}
use Rattle.mp_forms.specs.declared.typed_values.Typed.{Typed}
use Rattle.mp_forms.specs.FactorParts.{DomainParts, ProblemParts}

-- the declarations of other names
abbrev pub others : List ℕ → List Typed → List Typed
others name declared = filter (λ t. not (bytes_eq t.word.name name)) declared

-- each name's first declaration, in order
unfoldable pub first_declared : List Typed → List Typed
first_declared [] = []
first_declared (t ∷ ts) = t ∷ others t.word.name (first_declared ts)

-- the constants and then the objects, each name once, at its first place
abbrev pub object_list : DomainParts → ProblemParts → List Typed
object_list domain problem = first_declared (domain.constants ++ problem.objects)
