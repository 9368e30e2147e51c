-- Names that are looked up, each with a number.
use Rattle.std.specs.Prelude.{ℕ, ◌≡◌, List, [], ◌∷◌, Option, Some, None, if◌then◌else◌}
use Rattle.std.specs.List.{position_from}
use Rattle.std.specs.Str.{bytes_eq}
use Rattle.mp_forms.specs.declared.typed_values.Typed.{Typed}
use Rattle.mp_forms.specs.declared.signature_values.Signature.{Signature}
use Rattle.mp_typing.specs.Lookups.{arity_of}

-- a name and the number that is kept with it
pub record Entry : Type 0 where
  pub name : List ℕ
  pub number : ℕ

-- the number kept with the first of these entries that has this name
unfoldable pub number_of : List ℕ → List Entry → Option ℕ
number_of name [] = None
number_of name (e ∷ es) = if bytes_eq e.name name then Some e.number else number_of name es

-- two lists of entries keep the same number with each name
abbrev pub SameNumbers : List Entry → List Entry → Type 0
SameNumbers entries others = (name : List ℕ) → number_of name entries ≡ number_of name others

-- the number kept with a name is that of the parameters of the first of these predicates, or functions, that has it
abbrev pub HasArities : List Entry → List Signature → Type 0
HasArities entries signatures = (name : List ℕ) → number_of name entries ≡ arity_of signatures name

-- and the place of the first of these objects
abbrev pub HasPlaces : List Entry → List Typed → Type 0
HasPlaces entries objects =
    (name : List ℕ) → number_of name entries ≡ position_from (λ o. bytes_eq o.word.name name) 0 objects
