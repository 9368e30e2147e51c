-- Lists of numbers that rise and are below a size.
use Rattle.std.proofs.Common.{◌≡◌, ℕ, zero, suc, ◌+◌, ◌<◌, ◌≤◌, List, [], ◌∷◌, ◌++◌, ◌-◌, length, get_or, All, subst, arith, length-append}
use Rattle.std.specs.List.{AllByRecursion}
use Rattle.std.proofs.lemmas.List.Elements.{All-from_recursion}
use Rattle.mp_sets.specs.Numbers.{IsAboveLast}
use Rattle.std.proofs.Math.Seq.{get_or-append_seam}
use Rattle.std.specs.List.Sorted.{IsStrictlyIncreasing}

-- a number that rises is no less than its place
at_least_place : (xs : List ℕ) → IsStrictlyIncreasing xs → (k : ℕ) → k < length xs → k ≤ get_or xs k 0
at_least_place xs rises zero h = omega arith
at_least_place xs rises (suc k) h =
    let before = at_least_place xs rises k (omega arith) in
    let next : k + 1 ≡ suc k = omega arith in
    let step : get_or xs k 0 < get_or xs (suc k) 0 = subst (λ (j : ℕ). get_or xs k 0 < get_or xs j 0) next (rises k (omega arith)) in
    omega arith

-- so there are no more of them than numbers below the size
pub rising_short : (xs : List ℕ) (n : ℕ) → IsStrictlyIncreasing xs → All (λ x. x < n) xs → length xs ≤ n
rising_short [] n rises below = omega arith
rising_short (x ∷ xs) n rises below =
    let last = at_least_place (x ∷ xs) rises (length xs) (omega arith) in
    let small : get_or (x ∷ xs) (length xs) 0 < n = below (length xs) 0 (omega arith) in
    omega arith

-- what is above the number that was added last may follow
pub above_pushed : (xs : List ℕ) (y x : ℕ) → y + 1 ≤ x → IsAboveLast (xs ++ y ∷ []) x
above_pushed xs y x h some =
    let len : length (xs ++ y ∷ []) - 1 ≡ length xs = omega (arith, length-append xs (y ∷ [])) in
    let seam : get_or (xs ++ y ∷ []) (length xs) 0 ≡ y = get_or-append_seam xs y [] 0 in
    rw (len, seam) (omega arith)

-- ---- by recursion: each number is below the size, the first is no less than a least number, and each
-- other one is above the number before it

abbrev pub RisesFrom : ℕ → ℕ → List ℕ → Type 0
RisesFrom size least [] = Unit {0}
RisesFrom size least (x ∷ xs) = (least ≤ x) × (x < size) × RisesFrom size (x + 1) xs

-- what rises after its first number
rises_after : (x : ℕ) (xs : List ℕ) → IsStrictlyIncreasing (x ∷ xs) → IsStrictlyIncreasing xs
rises_after x xs rises k h =
    let next : suc k + 1 ≡ suc (k + 1) = omega arith in
    subst (λ (j : ℕ). get_or xs k 0 < get_or (x ∷ xs) j 0) next (rises (suc k) (omega arith))

first_below : (x : ℕ) (xs : List ℕ) → IsStrictlyIncreasing (x ∷ xs) → 0 < length xs → x + 1 ≤ get_or xs 0 0
first_below x xs rises h =
    let step : x < get_or xs 0 0 = rises 0 (omega arith) in
    omega arith

below_after : (size x : ℕ) (xs : List ℕ) → All (λ y. y < size) (x ∷ xs) → All (λ y. y < size) xs
below_after size x xs below k d h = below (suc k) d (omega arith)

pub RisesFrom-made : (size least : ℕ) (xs : List ℕ) → (0 < length xs → least ≤ get_or xs 0 0) → IsStrictlyIncreasing xs → All (λ x. x < size) xs → RisesFrom size least xs
RisesFrom-made size least [] first rises below = tt
RisesFrom-made size least (x ∷ xs) first rises below =
    (first (omega arith), below 0 0 (omega arith), RisesFrom-made size (x + 1) xs (first_below x xs rises) (rises_after x xs rises) (below_after size x xs below))

-- a number in front of those that rise from above it
rises_before : (x : ℕ) (xs : List ℕ) → (0 < length xs → x < get_or xs 0 0) → IsStrictlyIncreasing xs → IsStrictlyIncreasing (x ∷ xs)
rises_before x xs first rises zero h = first (omega arith)
rises_before x xs first rises (suc k) h =
    let next : suc (k + 1) ≡ suc k + 1 = omega arith in
    subst (λ (j : ℕ). get_or xs k 0 < get_or (x ∷ xs) j 0) next (rises k (omega arith))

first_from : (size least : ℕ) (xs : List ℕ) → RisesFrom size least xs → 0 < length xs → least ≤ get_or xs 0 0
first_from size least [] rises h = absurd (omega arith)
first_from size least (x ∷ xs) rises h = rises.0

pub RisesFrom-rises : (size least : ℕ) (xs : List ℕ) → RisesFrom size least xs → IsStrictlyIncreasing xs
RisesFrom-rises size least [] rises = λ k h. absurd (omega arith)
RisesFrom-rises size least (x ∷ xs) rises =
    rises_before x xs (λ h. let above : x + 1 ≤ get_or xs 0 0 = first_from size (x + 1) xs rises.2 h in omega arith) (RisesFrom-rises size (x + 1) xs rises.2)

below_by_recursion : (size least : ℕ) (xs : List ℕ) → RisesFrom size least xs → AllByRecursion (λ x. x < size) xs
below_by_recursion size least [] rises = tt
below_by_recursion size least (x ∷ xs) rises = (rises.1, below_by_recursion size (x + 1) xs rises.2)

pub RisesFrom-below : (size least : ℕ) (xs : List ℕ) → RisesFrom size least xs → All (λ x. x < size) xs
RisesFrom-below size least xs rises = All-from_recursion (λ x. x < size) xs (below_by_recursion size least xs rises)
