-- The delete relaxation of an agent's projected problem (Bonet and Geffner): nothing becomes false.
use Rattle.std.specs.Prelude.{◌≡◌, ℕ, ◌+◌, ◌-◌, ◌<◌, ◌≤◌, nat_lt, List, [], ◌∷◌, length, map, slice_index_or, slice_set, All, Contains, if◌then◌else◌}
use Rattle.std.specs.FinSet as set
use Rattle.mp_sets.specs.Numbers.{Numbers, numbers_below}
use Rattle.mp_task.specs.AgentTask.{AgentTask}
use Rattle.mp_task.specs.Projected.{projected}
use Rattle.mp_task.specs.Strips.{Operator}
use Rattle.mp_relaxed.specs.Users.{times}

pub record RelaxedProblem : Type 0 where
  pub publics : ℕ
  pub facts : ℕ
  pub operators : List Operator
  pub goals : List ℕ

abbrev pub without_deletes : Operator → Operator
without_deletes o = record { pre = o.pre; add = o.add; del = []; cost = o.cost }

abbrev pub delete_relaxation : AgentTask → RelaxedProblem
delete_relaxation t = record {
  publics = t.publics;
  facts = t.publics + t.privates;
  operators = map without_deletes (projected t).operators;
  goals = (projected t).goals;
}

-- a set of public facts and one of private facts, which are numbered behind them, as one state
abbrev pub state_of : RelaxedProblem → Numbers → Numbers → Numbers
state_of r publics privates =
    numbers_below r.facts (λ x.
    if nat_lt x r.publics then set.contains publics x else set.contains privates (x - r.publics))

-- an operator of a list by its number; past the end one of nothing
abbrev pub operator_at : List Operator → ℕ → Operator
operator_at operators k =
    slice_index_or operators k (record { pre = []; add = []; del = []; cost = 0 })

-- operators without deletes, from their preconditions, adds and costs
abbrev pub zipped : List (List ℕ) → List (List ℕ) → List ℕ → List Operator
zipped (pre ∷ pres) (add ∷ adds) (cost ∷ costs) =
    record { pre = pre; add = add; del = []; cost = cost } ∷ zipped pres adds costs
zipped _ _ _ = []

-- operators with other costs, one for each
abbrev pub priced : List ℕ → List Operator → List Operator
priced (cost ∷ costs) (o ∷ operators) = record o { cost = cost } ∷ priced costs operators
priced _ _ = []

-- an operator that costs so much less
abbrev pub cheaper : ℕ → Operator → Operator
cheaper by o = record o { cost = o.cost - by }

-- operators of which one costs so much less
abbrev pub with_cheaper : ℕ → ℕ → List Operator → List Operator
with_cheaper k by operators = slice_set operators k (cheaper by (operator_at operators k))

-- Operators after some got cheaper, whose numbers a list has: all else of them is as it was.
pub record AreCheaper (before after : List Operator) (numbers : List ℕ) : Type 0 where
  pub as_many : length after ≡ length before
  pub needed : (k : ℕ) → (operator_at after k).pre ≡ (operator_at before k).pre
  pub added : (k : ℕ) → (operator_at after k).add ≡ (operator_at before k).add
  pub lower : (k : ℕ) → (operator_at after k).cost ≤ (operator_at before k).cost
  pub same :
      (k : ℕ)
      → k < length after
      → ¬ Contains numbers k
      → (operator_at after k).cost ≡ (operator_at before k).cost

-- a list of numbers of operators has each operator as often as it adds a fact
abbrev pub HasAdders : List Operator → ℕ → List ℕ → Type 0
HasAdders operators x adders =
    (k : ℕ)
    → k < length operators
    → times x (operator_at operators k).add ≡ times k adders

-- a list of numbers of operators has each operator as often as a fact stands in its preconditions
abbrev pub HasUsers : List Operator → ℕ → List ℕ → Type 0
HasUsers operators x users =
    (k : ℕ)
    → k < length operators
    → times x (operator_at operators k).pre ≡ times k users

-- a list of numbers of operators has each operator without preconditions
abbrev pub HasFree : List Operator → List ℕ → Type 0
HasFree operators free =
    (k : ℕ) → k < length operators → (operator_at operators k).pre ≡ [] → Contains free k

-- each of a list of numbers of operators is without preconditions
abbrev pub AreAllFree : List Operator → List ℕ → Type 0
AreAllFree operators free = All (λ k. (operator_at operators k).pre ≡ []) free
