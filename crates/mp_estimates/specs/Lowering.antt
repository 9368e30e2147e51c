-- Numbers that stand for costs, one for each thing, in a search that lowers them: a queue has the things whose number has
-- changed, each with the number that it got.
use Rattle.std.specs.Prelude.{◌≡◌, ℕ, ◌+◌, ◌*◌, ◌<◌, ◌≤◌, ◌==◌, ◌&&◌, nat_lt, Option, Some, None, List, length, sum, slice_index_or, All, Contains, if◌then◌else◌}
use Rattle.std.specs.List.{count_by}
use Rattle.mp_estimates.specs.Estimates.{AtMost, Values}

-- numbers from this one on stand for none
abbrev pub unknown : ℕ
unknown = 18446744073709551615

abbrev pub known : ℕ → Option ℕ
known n = if nat_lt n unknown then Some n else None

abbrev pub number_at : List ℕ → ℕ → ℕ
number_at numbers x = slice_index_or numbers x unknown

abbrev pub value_at : List ℕ → Values
value_at numbers x = known (number_at numbers x)

-- values are at most those of numbers
abbrev pub AreBelow : Values → List ℕ → Type 0
AreBelow values numbers = (x : ℕ) → AtMost (values x) (value_at numbers x)

-- a number and the thing that has it
abbrev pub Key : Type 0
Key = ℕ × ℕ

abbrev pub key : ℕ → ℕ → Key
key n x = (n, x)

-- a thing waits in the queue with the number that it has now
abbrev pub Waits : List ℕ → List Key → ℕ → Type 0
Waits numbers queue x = Contains queue (key (number_at numbers x) x)

-- how often a queue has an entry
abbrev pub entries : ℕ → ℕ → List Key → ℕ
entries n x queue = count_by (λ (k : Key). (k.0 == n) && (k.1 == x)) queue

-- No entry is less than the number that its thing has, and none that has it stands twice.
pub record IsProper (numbers : List ℕ) (queue : List Key) : Type 0 where
  pub current : All (λ (k : Key). number_at numbers k.1 ≤ k.0) queue
  pub once : (x : ℕ) → entries (number_at numbers x) x queue ≤ 1

-- a measure that falls
abbrev pub weight : List ℕ → List Key → ℕ
weight numbers queue = 2 * sum numbers + length queue

-- Numbers have fallen, and a thing whose number fell waits; one that waited waits still.
pub record HaveFallen (old : List ℕ) (before : List Key) (new : List ℕ) (after : List Key) : Type 0 where
  pub as_many : length new ≡ length old
  pub lower : (x : ℕ) → number_at new x ≤ number_at old x
  pub quiet :
      (x : ℕ)
      → ¬ Waits new after x
      → (number_at new x ≡ number_at old x) × ¬ Waits old before x
  pub inside :
      All (λ (k : Key). k.1 < length old) before
      → All (λ (k : Key). k.1 < length old) after
  pub lighter : weight new after ≤ weight old before
  pub proper : IsProper old before → IsProper new after
