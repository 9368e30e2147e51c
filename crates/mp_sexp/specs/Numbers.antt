-- The numbers of names.
use Rattle.std.specs.Prelude.{ℕ, Bool, List, [], length, Option, slice_index_or}
use Rattle.std.specs.List.{list_any, position_from}
use Rattle.std.specs.Option.{option_map_or}
use Rattle.std.specs.Str.{bytes_eq}

-- the place, from 0, at which a name stands first among others
abbrev pub place_in : List (List ℕ) → List ℕ → Option ℕ
place_in names name = position_from (λ n. bytes_eq n name) 0 names

-- the number of a name among others: its place, and their count where it doesn't stand there
unfoldable pub number_in : List (List ℕ) → List ℕ → ℕ
number_in names name = option_map_or (λ place. place) (place_in names name) (length names)

-- whether it stands there
abbrev pub is_named : List (List ℕ) → List ℕ → Bool
is_named names name = list_any (λ n. bytes_eq name n) names

-- the name at a place, and the empty one past the end
abbrev pub name_at : List (List ℕ) → ℕ → List ℕ
name_at names place = slice_index_or names place []
