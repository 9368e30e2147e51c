-- Lists of rows of words, each once.
use Rattle.std.specs.Prelude.{◌≡◌, ℕ, ◌<◌, List, [], length, slice_index_or}

-- the row of a number, and the empty one past the end
abbrev pub row_at : List (List ℕ) → ℕ → List ℕ
row_at rows n = slice_index_or rows n []

-- no item stands at two places of a list; past its end stands d
abbrev pub AreOnce : {X : Type 0} → X → List X → Type 0
AreOnce d xs =
    (i j : ℕ) → i < length xs → j < length xs → slice_index_or xs i d ≡ slice_index_or xs j d → i ≡ j

-- no row stands at two places
abbrev pub AreApart : List (List ℕ) → Type 0
AreApart rows = AreOnce [] rows

-- a row is not in a list
abbrev pub IsNew : List ℕ → List (List ℕ) → Type 0
IsNew row rows = (n : ℕ) → n < length rows → row_at rows n ≡ row → ⊥
