-- Sets of one size as rows of their words.
use Rattle.std.specs.Prelude.{ℕ, ◌<◌, ◌^◌, List, map, All, slice_index}
use Rattle.mp_rows.specs.Apart.{AreApart}
use Rattle.mp_sets.specs.Numbers.{Numbers, numbers_below}
use Rattle.mp_sets.specs.Words.{has_bit, ArePacked}

-- the sets of rows
abbrev pub sets_of : ℕ → List (List ℕ) → List Numbers
sets_of size rows = map (λ row. numbers_below size (has_bit row)) rows

-- a row has the words of a set
pub record IsSetRow (size : ℕ) (row : List ℕ) : Type 0 where
  pub packed : ArePacked size row
  pub fits : (k : ℕ) → slice_index row k < 2 ^ 64

-- different rows, each with the words of a set
pub record AreSetRows (size : ℕ) (rows : List (List ℕ)) : Type 0 where
  pub rows_are : All (IsSetRow size) rows
  pub apart : AreApart rows
