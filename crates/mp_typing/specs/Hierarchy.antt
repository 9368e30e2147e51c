-- What is kept of types and objects, each found by the name of a type.
use Rattle.std.specs.Prelude.{◌≡◌, ℕ, List, length}
use Rattle.mp_forms.specs.declared.typed_values.Typed.{Typed}
use Rattle.mp_typing.specs.ByType.{items_of, places_of}
use Rattle.mp_typing.specs.Under.{directly_under}
use Rattle.mp_typing.specs.declared.hierarchy.Hierarchy.{Hierarchy}

-- for each type those that are declared directly under it
abbrev pub HasLower : List Typed → List (List ℕ × List (List ℕ)) → Type 0
HasLower declared entries = (name : List ℕ) → items_of entries name ≡ directly_under declared name

-- for each type the places of the objects that are written with it
abbrev pub HasObjects : List Typed → List (List ℕ × List ℕ) → Type 0
HasObjects objects entries = (name : List ℕ) → items_of entries name ≡ places_of 0 objects name

-- both, and how many objects there are
pub record IsHierarchy (declared objects : List Typed) (h : Hierarchy) : Type 0 where
  pub lower : HasLower declared h.lower.entries
  pub counted : h.count ≡ length objects
  pub listed : HasObjects objects h.listed.entries
