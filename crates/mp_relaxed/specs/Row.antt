-- Rows of numbers in one list.
use Rattle.std.specs.Prelude.{ℕ, ◌+◌, ◌≤◌, List, length, take, drop}
use Rattle.mp_relaxed.specs.declared.rows.Row.{Row}

-- the numbers of a row
abbrev pub row_of : List ℕ → Row → List ℕ
row_of items row = take row.len (drop row.start items)

-- it stands within a list
abbrev pub IsWithin : List ℕ → Row → Type 0
IsWithin items row = row.start + row.len ≤ length items
