-- Names among others.
use Rattle.std.specs.Prelude.{◌≡◌, ℕ, Bool, List, map}
use Rattle.std.specs.List.{list_any}
use Rattle.std.specs.Str.{bytes_eq}
use Rattle.mp_forms.specs.declared.word.Word.{Word}

-- the names of words
abbrev pub names_of : List Word → List (List ℕ)
names_of words = map (λ w. w.name) words

-- whether a name stands in a list
abbrev pub is_among : List (List ℕ) → List ℕ → Bool
is_among names name = list_any (bytes_eq name) names

-- whether some word's name stands in a list
abbrev pub has_any : List (List ℕ) → List Word → Bool
has_any names words = list_any (λ w. is_among names w.name) words

-- the same names stand in both lists
abbrev pub SameNames : List (List ℕ) → List (List ℕ) → Type 0
SameNames names others = (name : List ℕ) → is_among names name ≡ is_among others name
