-- Lists that lie one behind another in one list of numbers, and entries of certificates in such lists.
use Rattle.std.specs.Prelude.{◌≡◌, ℕ, zero, suc, ◌*◌, ◌≤◌, List, [], ◌∷◌, length, slice_index, slice_range, take, drop, All}
use Rattle.std.specs.List.Sorted.{IsStrictlyIncreasing}
use Rattle.mp_audit.specs.declared.certificate.Bound.{Bound}

-- the lists that end at these places of numbers, each of which begins where the one before it ends, the first one at a start
abbrev pub cut : ℕ → List ℕ → List ℕ → List (List ℕ)
cut start [] numbers = []
cut start (end ∷ ends) numbers = slice_range numbers start end ∷ cut end ends numbers

-- where the list in a place begins
abbrev pub start_at : ℕ → List ℕ → ℕ → ℕ
start_at start ends zero = start
start_at start ends (suc k) = slice_index ends k

-- no list ends before it begins, nor behind so many numbers
abbrev pub AreWithin : ℕ → List ℕ → ℕ → Type 0
AreWithin start [] size = start ≤ size
AreWithin start (end ∷ ends) size = (start ≤ end) × AreWithin end ends size

-- the lists lie in the numbers, and each of them rises
pub record AreCut (start : ℕ) (ends numbers : List ℕ) : Type 0 where
  pub within : AreWithin start ends (length numbers)
  pub rise : All IsStrictlyIncreasing (cut start ends numbers)

-- they lie in the numbers from the first one on, and behind them there is no other number
pub record FillsAll (ends numbers : List ℕ) : Type 0 where
  pub are_cut : AreCut 0 ends numbers
  pub all : start_at 0 ends (length ends) ≡ length numbers

-- the first list
abbrev pub first_of : List (List ℕ) → List ℕ
first_of [] = []
first_of (list ∷ lists) = list

-- an entry by its agent, its bound, and the list of its public facts with those of private facts behind it
abbrev pub entry_of : ℕ → ℕ → List (List ℕ) → Bound
entry_of agent bound lists =
    record { agent = agent; bound = bound; publics = first_of lists; privates = drop 1 lists }

-- entries by their agents and bounds, and so many lists for each of them
abbrev pub entries_of : ℕ → List ℕ → List ℕ → List (List ℕ) → List Bound
entries_of count [] bounds lists = []
entries_of count (agent ∷ agents) [] lists = []
entries_of count (agent ∷ agents) (bound ∷ bounds) lists =
    entry_of agent bound (take count lists) ∷ entries_of count agents bounds (drop count lists)

-- entries, each of which has a list of private facts for each of so many agents
pub record FlatParts : Type 0 where
  pub agents : ℕ
  pub entries : List Bound

-- the entries have a bound and as many lists each
pub record AreEntries (count : ℕ) (agents bounds : List ℕ) (lists : List (List ℕ)) : Type 0 where
  pub as_many : length bounds ≡ length agents
  pub lists_each : length lists ≡ length agents * count
