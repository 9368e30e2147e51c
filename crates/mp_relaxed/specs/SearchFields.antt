-- The arrays of a search as what contracts see of them.
use Rattle.std.specs.Prelude.{ℕ, List, length}
use Rattle.mp_relaxed.specs.declared.values.Search.TheInside.{Inside}

-- for how many operators a search is, and the number of each fact
pub record SearchArrays : Type 0 where
  pub operators : ℕ
  pub numbers : List ℕ

abbrev pub search_arrays : Inside → SearchArrays
search_arrays s = record { operators = length s.counters.items; numbers = s.numbers.items }
