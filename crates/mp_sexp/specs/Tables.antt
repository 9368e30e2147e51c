-- Names that are looked up in a map.
use Rattle.std.specs.Prelude.{ℕ, ◌≡◌, List}
use Rattle.std.specs.List.{position_from}
use Rattle.std.specs.Map.{lookup}
use Rattle.std.specs.Str.{bytes_eq}

-- each of these names is kept with the place at which it stands first, and no other name is kept
abbrev pub HasPlaces : {K : Type 0} → (K → List ℕ) → List (K × ℕ) → List (List ℕ) → Type 0
HasPlaces name_of entries names =
    (name : List ℕ)
    → lookup (λ k. bytes_eq name (name_of k)) entries ≡ position_from (λ n. bytes_eq n name) 0 names
