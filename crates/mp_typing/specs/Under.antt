-- The types that are some types or lie under them, one found after the other along the declarations, and by these the
-- test whether an object is of a type.
use Rattle.std.specs.Prelude.{ℕ, zero, suc, ◌+◌, ◌==◌, ◌||◌, Bool, List, [], ◌∷◌, ◌++◌, length, Option, Some, None, slice_get, if◌then◌else◌}
use Rattle.std.specs.List.{flat_map}
use Rattle.mp_forms.specs.declared.typed_values.Typed.{Typed}
use Rattle.mp_typing.specs.Names.{is_among, has_any}
use Rattle.mp_typing.specs.IsA.{object_name}
use Rattle.mp_typing.specs.ByType.{listed_by}

-- the types that are declared directly under one
abbrev pub directly_under : List Typed → List ℕ → List (List ℕ)
directly_under declared name = flat_map (λ t. listed_by t.word.name t.types name) declared

-- types that are found, and one more, where it is new
abbrev pub with_type : List (List ℕ) → List ℕ → List (List ℕ)
with_type found name = if is_among found name then found else found ++ name ∷ []

-- and more, one after the other
unfoldable pub with_types : List (List ℕ) → List (List ℕ) → List (List ℕ)
with_types found [] = found
with_types found (name ∷ names) = with_types (with_type found name) names

-- and those directly under one type, where there is one
abbrev pub with_lower : List Typed → List (List ℕ) → Option (List ℕ) → List (List ℕ)
with_lower declared found None = found
with_lower declared found (Some name) = with_types found (directly_under declared name)

-- What is found from some types once so many of those found were looked at, in the order in which they were found.
unfoldable pub found_after : List Typed → List (List ℕ) → ℕ → List (List ℕ)
found_after declared tops zero = with_types [] tops
found_after declared tops (suc n) =
    with_lower declared (found_after declared tops n) (slice_get (found_after declared tops n) n)

-- all that is found: no more types than there are tops and declarations
abbrev pub lower : List Typed → List (List ℕ) → List (List ℕ)
lower declared tops = found_after declared tops (length tops + length declared)

-- a type is one of the tops or lies under one: it is found, or `object` is
abbrev pub lies_under : List Typed → List (List ℕ) → List ℕ → Bool
lies_under declared tops name = is_among (lower declared tops) name || is_among (lower declared tops) object_name

-- an object is of an asked type: none is asked, or `object` or one of its own types is found from those that are
abbrev pub is_of_type : List Typed → List (List ℕ) → Typed → Bool
is_of_type declared asked object =
    length asked == 0 || (is_among (lower declared asked) object_name || has_any (lower declared asked) object.types)
