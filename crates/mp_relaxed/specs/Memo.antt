-- Values of states that are kept.
use Rattle.std.specs.Prelude.{◌≡◌, ℕ, nat_lt, Option, List, [], length, All, refl, if◌then◌else◌}
use Rattle.std.specs.Coded.{Coded, code_by, coded×, coded_ℕ, coded_list, coded_option}
use Rattle.std.specs.FinSet as set
use Rattle.mp_sets.specs.Numbers.{Numbers}
use Rattle.mp_task.specs.Strips.{Operator}
use Rattle.mp_relaxed.specs.Relaxed.{RelaxedProblem, state_of}

-- a state and its value
pub record MemoEntry : Type 0 where
  pub publics : Numbers
  pub privates : Numbers
  pub value : Option ℕ

-- entries of states whose sets of public and of private facts have these sizes
pub record MemoTable : Type 0 where
  pub publics : ℕ
  pub privates : ℕ
  pub entries : List MemoEntry

abbrev pub memo_entry_code : Coded MemoEntry
memo_entry_code =
    code_by (Numbers × (Numbers × Option ℕ)) (coded× (set.code coded_ℕ) (coded× (set.code coded_ℕ) (coded_option coded_ℕ))) (λ e. (e.publics, (e.privates, e.value))) (λ p. record { publics = p.0; privates = p.1.0; value = p.1.1 }) (λ _. refl)

abbrev pub memo_table_code : Coded MemoTable
memo_table_code =
    code_by (ℕ × (ℕ × List MemoEntry)) (coded× coded_ℕ (coded× coded_ℕ (coded_list memo_entry_code))) (λ t. (t.publics, (t.privates, t.entries))) (λ p. record { publics = p.0; privates = p.1.0; entries = p.1.1 }) (λ _. refl)

-- no entry is that of a state
abbrev pub HasNone : List MemoEntry → Numbers → Numbers → Type 0
HasNone entries publics privates = All (λ e. e.publics ≡ publics → e.privates ≡ privates → ⊥) entries

-- a list before one more comes: where it has 131,072 items, all are let go
abbrev pub with_room : {X : Type 0} → List X → List X
with_room xs = if nat_lt (length xs) 131072 then xs else []

-- an entry has the value that a law gives for its state
abbrev pub IsRight : (Numbers → Numbers → Option ℕ) → MemoEntry → Type 0
IsRight law entry = entry.value ≡ law entry.publics entry.privates

-- a heuristic as a law of states, for a problem
abbrev pub value_in : (List Operator → List ℕ → Numbers → Option ℕ) → RelaxedProblem → Numbers → Numbers → Option ℕ
value_in heuristic r publics privates = heuristic r.operators r.goals (state_of r publics privates)
