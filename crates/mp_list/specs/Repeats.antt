-- The items of a list that repeat an earlier one: each item has a key, and a test says which keys are the same.
use Rattle.std.specs.Prelude.{◌≡◌, ◌<◌, ℕ, Bool, true, List, [], ◌∷◌, ◌++◌, length, map, take, if◌then◌else◌, slice_index_or}
use Rattle.std.specs.List.{list_any}

-- the key is one of these
abbrev pub is_among_keys : {K : Type 0} → (K → K → Bool) → List K → K → Bool
is_among_keys same keys key = list_any (λ earlier. same earlier key) keys

-- an item, where it repeats another
abbrev pub if_repeated : {X : Type 0} → Bool → X → List X
if_repeated is_among item = if is_among then item ∷ [] else []

-- those items whose key is one of `keys`, or the key of an item that stands before them
unfoldable pub repeats_behind : {K X : Type 0} → (K → K → Bool) → (X → K) → List K → List X → List X
repeats_behind same key_of keys [] = []
repeats_behind same key_of keys (x ∷ xs) =
    if_repeated (is_among_keys same keys (key_of x)) x ++ repeats_behind same key_of (keys ++ key_of x ∷ []) xs

-- those items whose key an item before them has
abbrev pub repeats : {K X : Type 0} → (K → K → Bool) → (X → K) → List X → List X
repeats same key_of xs = repeats_behind same key_of [] xs

-- it stands at this place of the items, and its key is among those of the items before it, or one of `keys`
pub record RepeatsAt {K X : Type 0} (same : K → K → Bool) (key_of : X → K) (keys : List K) (xs : List X) (place : ℕ) (item : X) : Type 0 where
  pub inside : place < length xs
  pub is : item ≡ slice_index_or xs place item
  pub known : is_among_keys same (keys ++ map key_of (take place xs)) (key_of item) ≡ true
