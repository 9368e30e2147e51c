-- The places of agents in notes.
use Rattle.mp_world.proofs.Basics.{◌≡◌, ◌≢◌, ℕ, zero, suc, ◌-◌, ◌≤◌, ◌<◌, Bool, true, false, List, [], ◌∷◌, length, take, subst, arith, replicate, slice_index_or, slice_set, list_all, and_parts, get_or-replicate, get_or-set_other, get_or-set_same}
use Rattle.mp_world.specs.AgentWords.{Notes, has, is_whole}

-- different agents have different places
pub apart_places : (i j : ℕ) → 1 ≤ i → 1 ≤ j → i ≢ j → i - 1 ≢ j - 1
apart_places i j low_i low_j apart same = apart (omega arith)

pub has_set_same : (flags : List Bool) (i : ℕ) → 1 ≤ i → i ≤ 16 → length flags ≡ 16 → has (slice_set flags (i - 1) true) i ≡ true
has_set_same flags i low high many = get_or-set_same flags (i - 1) true false (omega arith)

pub has_set_other : (flags : List Bool) (i j : ℕ) → 1 ≤ i → 1 ≤ j → i ≢ j → has (slice_set flags (j - 1) true) i ≡ has flags i
has_set_other flags i j low_i low_j apart = get_or-set_other flags (j - 1) (i - 1) true false (apart_places i j low_i low_j apart)

pub has_nobody : (i : ℕ) → 1 ≤ i → i ≤ 16 → has (replicate 16 false) i ≡ false
has_nobody i low high = get_or-replicate 16 (i - 1) false false (omega arith)

all_get : (flags : List Bool) (n k : ℕ) → k < n → k < length flags → list_all (λ b. b) (take n flags) ≡ true → slice_index_or flags k false ≡ true
all_get [] n k within inside all = absurd (omega arith)
all_get (x ∷ xs) zero k within inside all = absurd (omega arith)
all_get (x ∷ xs) (suc n) zero within inside all = (and_parts x (list_all (λ b. b) (take n xs)) all).0
all_get (x ∷ xs) (suc n) (suc k) within inside all = all_get xs n k (omega arith) (omega arith) (and_parts x (list_all (λ b. b) (take n xs)) all).1

-- where all of the team are listed, each one is
pub all_has : (flags : List Bool) (agents i : ℕ) → 1 ≤ i → i ≤ agents → agents ≤ 16 → length flags ≡ 16
    → list_all (λ b. b) (take agents flags) ≡ true → has flags i ≡ true
all_has flags agents i low high small many all = all_get flags agents (i - 1) (omega arith) (omega arith) all

-- where no marker is awaited, that of each agent has come
pub whole_has : (s : Notes) (agents i : ℕ) → s.agents ≡ agents → length s.marked ≡ 16 → 1 ≤ i → i ≤ agents → agents ≤ 16
    → is_whole s ≡ true → has s.marked i ≡ true
whole_has s agents i team many low high small whole =
    all_has s.marked agents i low high small many (subst (λ n. list_all (λ b. b) (take n s.marked) ≡ true) team whole)
