-- What a search for the values of facts has: a number for each fact, a queue of facts whose number has changed, and for
-- each operator a count of preconditions that are open.
use Rattle.std.specs.Prelude.{◌≡◌, ℕ, ◌+◌, ◌-◌, ◌<◌, ◌≤◌, Option, Some, None, List, [], ◌∷◌, length, slice_index_or, All, IsTrue}
use Rattle.mp_sets.specs.Numbers.{Numbers}
use Rattle.mp_task.specs.Strips.{Operator}
use Rattle.mp_estimates.specs.Estimates.{AtMost, Values}
use Rattle.mp_estimates.specs.Lowering.{unknown, known, number_at, value_at, Key, Waits}
use Rattle.mp_relaxed.specs.Values.{cost_by, adds, fact_values, greatest}
use Rattle.mp_relaxed.specs.Relaxed.{RelaxedProblem, operator_at, state_of}
use Rattle.mp_relaxed.specs.Users.{times}

-- a fact is open: it waits, or it has no number
abbrev pub IsOpen : List ℕ → List Key → ℕ → Type 0
IsOpen numbers queue x = ¬ Waits numbers queue x → unknown ≤ number_at numbers x

-- at least so many items of a list are such
pub data AtLeast (P : ℕ → Type 0) : List ℕ → ℕ → Type 0 where
  nothing : (xs : List ℕ) → AtLeast P xs 0
  one : (x : ℕ) (xs : List ℕ) (n : ℕ) → P x → AtLeast P xs n → AtLeast P (x ∷ xs) (n + 1)
  more : (x : ℕ) (xs : List ℕ) (n : ℕ) → AtLeast P xs n → AtLeast P (x ∷ xs) n

-- an operator's count
abbrev pub count_at : List ℕ → ℕ → ℕ
count_at counts k = slice_index_or counts k 0

-- counts are at most those of open preconditions
abbrev pub CountOpen : List Operator → List ℕ → List Key → List ℕ → Type 0
CountOpen operators numbers queue counts =
    (k : ℕ)
    → k < length operators
    → AtLeast (IsOpen numbers queue) (operator_at operators k).pre (count_at counts k)

-- all entries of a queue have a number of at least this one
abbrev pub AreFrom : ℕ → List Key → Type 0
AreFrom n queue = All (λ (k : Key). n ≤ k.0) queue

-- A fact is settled: it does not wait, and its number is at most each one in the queue.
abbrev pub IsSettled : List ℕ → List Key → ℕ → Type 0
IsSettled numbers queue x = (¬ Waits numbers queue x) × AreFrom (number_at numbers x) queue

-- all items of a list but at most so many are such
pub data AllBut (P : ℕ → Type 0) : List ℕ → ℕ → Type 0 where
  empty : (n : ℕ) → AllBut P [] n
  such : (x : ℕ) (xs : List ℕ) (n : ℕ) → P x → AllBut P xs n → AllBut P (x ∷ xs) n
  spared : (x : ℕ) (xs : List ℕ) (n : ℕ) → AllBut P xs n → AllBut P (x ∷ xs) (n + 1)

-- counts are at least those of preconditions that are not settled
abbrev pub CountUnsettled : List Operator → List ℕ → List Key → List ℕ → Type 0
CountUnsettled operators numbers queue counts =
    (k : ℕ)
    → k < length operators
    → AllBut (IsSettled numbers queue) (operator_at operators k).pre (count_at counts k)

-- numbers up to this one have stayed, their facts wait only where they did, and what came into the queue is no less
pub record HaveStayed (n : ℕ) (old : List ℕ) (before : List Key) (new : List ℕ) (after : List Key) : Type 0 where
  pub same : (x : ℕ) → number_at old x ≤ n → number_at new x ≡ number_at old x
  pub calm : (x : ℕ) → number_at old x ≤ n → ¬ Waits old before x → ¬ Waits new after x
  pub above : AreFrom n before → AreFrom n after

-- a number is the greatest of some facts
pub record IsMost (n : ℕ) (numbers : List ℕ) (facts : List ℕ) : Type 0 where
  pub at_most : All (λ x. number_at numbers x ≤ n) facts
  pub is : known n ≡ greatest (value_at numbers) facts

-- numbers beyond the greatest that a program has are as none
abbrev pub capped : Option ℕ → Option ℕ
capped None = None
capped (Some n) = known n

-- Unless one of its preconditions waits, what an operator adds costs no more than by it.
abbrev pub IsServed : List Operator → List ℕ → List Key → ℕ → Type 0
IsServed operators numbers queue k =
    All (λ x. ¬ Waits numbers queue x) (operator_at operators k).pre
    → All
    (λ y. AtMost (value_at numbers y) (capped (cost_by (value_at numbers) (operator_at operators k))))
    (operator_at operators k).add

-- values are at most what the operators give
abbrev pub AreLow : List Operator → Values → Type 0
AreLow operators values =
    (k x : ℕ)
    → k < length operators
    → IsTrue (adds (operator_at operators k) x)
    → AtMost (values x) (cost_by values (operator_at operators k))

-- numbers are the values of facts for a state, of which the public and the private facts are given
abbrev pub AreValues : RelaxedProblem → Numbers → Numbers → List ℕ → Type 0
AreValues r publics privates numbers =
    (x : ℕ) → value_at numbers x ≡ fact_values r.operators (state_of r publics privates) x

-- operators whose count is 0 are served
abbrev pub ServeAtZero : List Operator → List ℕ → List Key → List ℕ → Type 0
ServeAtZero operators numbers queue counts =
    (k : ℕ) → k < length operators → count_at counts k ≡ 0 → IsServed operators numbers queue k

-- each count has been lowered as often as its operator's number stands in a list
abbrev pub AreLowered : List ℕ → List ℕ → List ℕ → Type 0
AreLowered old users new = (k : ℕ) → count_at new k ≡ count_at old k - times k users

-- operators whose preconditions all have lesser numbers than a bound are served
abbrev pub ServesBelow : List Operator → List ℕ → ℕ → Type 0
ServesBelow operators numbers n =
    (k : ℕ)
    → k < length operators
    → All (λ x. number_at numbers x < n) (operator_at operators k).pre
    → All
    (λ y. AtMost (value_at numbers y) (capped (cost_by (value_at numbers) (operator_at operators k))))
    (operator_at operators k).add

-- some facts have numbers of at most a bound, below which operators are served
pub record AreSettled (operators : List Operator) (numbers : List ℕ) (facts : List ℕ) : Type 0 where
  pub bound : ℕ
  pub low : All (λ x. number_at numbers x ≤ bound) facts
  pub serves : ServesBelow operators numbers bound

-- What a search for some facts finds: the greatest of their values, and where there are none, the values of all facts.
pub record AreFound (r : RelaxedProblem) (publics privates : Numbers) (wanted numbers : List ℕ) : Type 0 where
  pub most : greatest (value_at numbers) wanted ≡ greatest (fact_values r.operators (state_of r publics privates)) wanted
  pub values : length wanted ≡ 0 → AreValues r publics privates numbers
