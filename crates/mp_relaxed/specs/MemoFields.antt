-- Rows of words with values beside them as the entries of a memo.
use Rattle.std.specs.Prelude.{◌≡◌, ℕ, ◌^◌, Option, List, [], ◌∷◌, ◌++◌, take, drop, length, All}
use Rattle.std.specs.Simd.Lanes.{digits_l}
use Rattle.mp_sets.specs.Compared.{binary}
use Rattle.mp_sets.specs.Numbers.{Numbers, numbers_below}
use Rattle.mp_sets.specs.Words.{has_bit, words_for}
use Rattle.mp_relaxed.specs.declared.memo.Memo.TheInside.{Inside}
use Rattle.mp_relaxed.specs.Memo.{MemoEntry, MemoTable}

-- the words of a set of numbers below a size
abbrev pub words_of : ℕ → Numbers → List ℕ
words_of size s = digits_l (2 ^ 64) (words_for size) (binary s)

-- the row of a state: the words of its public facts and then those of its private ones
abbrev pub state_row : ℕ → ℕ → Numbers → Numbers → List ℕ
state_row p q publics privates = words_of p publics ++ words_of q privates

abbrev pub publics_in : ℕ → List ℕ → Numbers
publics_in p row = numbers_below p (has_bit (take (words_for p) row))

abbrev pub privates_in : ℕ → ℕ → List ℕ → Numbers
privates_in p q row = numbers_below q (has_bit (drop (words_for p) row))

abbrev pub entry_in : ℕ → ℕ → List ℕ → Option ℕ → MemoEntry
entry_in p q row value = record { publics = publics_in p row; privates = privates_in p q row; value = value }

abbrev pub entries_in : ℕ → ℕ → List (List ℕ) → List (Option ℕ) → List MemoEntry
entries_in p q (row ∷ rows) (value ∷ values) = entry_in p q row value ∷ entries_in p q rows values
entries_in p q _ _ = []

-- a row is that of its state
abbrev pub IsStateRow : ℕ → ℕ → List ℕ → Type 0
IsStateRow p q row = row ≡ state_row p q (publics_in p row) (privates_in p q row)

-- the row of a state has its sets
pub record HasSets (p q : ℕ) (publics privates : Numbers) : Type 0 where
  pub public_one : publics_in p (state_row p q publics privates) ≡ publics
  pub private_one : privates_in p q (state_row p q publics privates) ≡ privates

abbrev pub memo_table : Inside → MemoTable
memo_table m = record {
  publics = m.publics;
  privates = m.privates;
  entries = entries_in m.publics m.privates m.rows m.values.items;
}

-- each row is that of its state, and there is a value for each
pub record IsMemo (m : Inside) : Type 0 where
  pub rows_are : All (IsStateRow m.publics m.privates) m.rows
  pub each : length m.values.items ≡ length m.rows
