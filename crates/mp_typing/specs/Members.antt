-- The objects that are of a type (typing of PDDL 2.1).
use Rattle.std.specs.Prelude.{◌≡◌, ℕ, Some, List, [], ◌∷◌, ◌↔◌, Contains, slice_get}
use Rattle.std.specs.List.Sorted.{IsStrictlyIncreasing}
use Rattle.mp_forms.specs.declared.typed_values.Typed.{Typed}
use Rattle.mp_typing.specs.Names.{names_of}
use Rattle.mp_typing.specs.IsA.{IsA, object_name}

-- the types that are meant where these are written: `object`, where none is
abbrev pub meant : List (List ℕ) → List (List ℕ)
meant [] = object_name ∷ []
meant (name ∷ names) = name ∷ names

-- some type of an object is one of the asked types or lies under it
pub record IsOfType (declared : List Typed) (asked : List (List ℕ)) (object : Typed) : Type 0 where
  pub own : List ℕ
  pub above : List ℕ
  pub declared_own : Contains (meant (names_of object.types)) own
  pub asked_above : Contains (meant asked) above
  pub under : IsA declared own above

-- an object stands at this place of a list, and it is of one of the asked types
pub record IsMember (declared objects : List Typed) (asked : List (List ℕ)) (place : ℕ) : Type 0 where
  pub object : Typed
  pub at : slice_get objects place ≡ Some object
  pub of_type : IsOfType declared asked object

-- the places of the objects that are of one of the asked types, in rising order
pub record Members (declared objects : List Typed) (asked : List (List ℕ)) (numbers : List ℕ) : Type 0 where
  pub rising : IsStrictlyIncreasing numbers
  pub exact : (number : ℕ) → Contains numbers number ↔ IsMember declared objects asked number
