-- What it means that some actions may be done at the same time, and that no plan's steps can be fewer (Bäckström 1998).
use Rattle.std.specs.Prelude.{◌≡◌, ◌<◌, ℕ, ◌+◌, true, List, [], ◌∷◌, ◌++◌, length, Some, slice_get, Contains, IsPermutation}
use Rattle.std.specs.List.{flat_map}
use Rattle.mp_steps.specs.Levels.{Test, times}

-- Some steps are a packing of a plan of so many actions: each action stands in them once, and of two that interfere the
-- earlier one stands in an earlier step. So no two actions of a step interfere.
pub record IsPacking (interfere : Test) (count : ℕ) (packing : List (List ℕ)) : Type 0 where
  pub once : IsPermutation (times count) (flat_map (λ s. s) packing)
  pub in_order :
      (k m : ℕ) (s r : List ℕ) (t u : ℕ)
      → slice_get packing k ≡ Some s
      → slice_get packing m ≡ Some r
      → Contains s t
      → Contains r u
      → t < u
      → interfere t u ≡ true
      → k < m

-- Times are a chain through some steps: there is one time of each step, they rise, and each one's action interferes with
-- that of the next.
pub record IsChain (interfere : Test) (packing : List (List ℕ)) (chain : List ℕ) : Type 0 where
  pub long : length chain ≡ length packing
  pub each : (k t : ℕ) (s : List ℕ) → slice_get chain k ≡ Some t → slice_get packing k ≡ Some s → Contains s t
  pub rises : (k t u : ℕ) → slice_get chain k ≡ Some t → slice_get chain (k + 1) ≡ Some u → t < u
  pub interferes : (k t u : ℕ) → slice_get chain k ≡ Some t → slice_get chain (k + 1) ≡ Some u → interfere t u ≡ true

-- An order of times is made by writing some steps one after another, each in any order.
abbrev pub WritesOut : List (List ℕ) → List ℕ → Type 0
WritesOut [] order = order ≡ []
WritesOut (s ∷ steps) order =
    (front : List ℕ)
    × (later : List ℕ)
    × IsPermutation s front
    × WritesOut steps later
    × (order ≡ front ++ later)
