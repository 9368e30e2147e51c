-- Items that are listed by the types with which they are written.
use Rattle.std.specs.Prelude.{ℕ, suc, List, [], ◌∷◌, ◌++◌, map, filter, unwrap_or}
use Rattle.std.specs.Map.{lookup}
use Rattle.std.specs.Str.{bytes_eq}
use Rattle.mp_forms.specs.declared.word.Word.{Word}
use Rattle.mp_forms.specs.declared.typed_values.Typed.{Typed}

-- the items that a map has for a type
abbrev pub items_of : {T : Type 0} → List (List ℕ × List T) → List ℕ → List T
items_of entries name = unwrap_or (lookup (bytes_eq name) entries) []

-- an item once for each of these words that is a type's name
abbrev pub listed_by : {T : Type 0} → T → List Word → List ℕ → List T
listed_by item words name = map (λ w. item) (filter (λ w. bytes_eq w.name name) words)

-- the places of the objects that are written with a type, from a first place on
unfoldable pub places_of : ℕ → List Typed → List ℕ → List ℕ
places_of place [] name = []
places_of place (o ∷ os) name = listed_by place o.types name ++ places_of (suc place) os name
