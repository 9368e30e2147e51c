-- What is found by the lists.
use Rattle.std.specs.Prelude.{◌≡◌, ℕ, Bool, true, List, [], Contains, slice_index_or}
use Rattle.std.specs.FinSet as set
use Rattle.mp_sets.specs.Numbers.{Numbers}

-- a number is in the list of a fact that is true
pub record IsDue (lists : List (List ℕ)) (facts : Numbers) (number : ℕ) : Type 0 where
  pub fact : ℕ
  pub is_true : set.contains facts fact ≡ true
  pub listed : Contains (slice_index_or lists fact []) number

-- Numbers that pass a test were added to a set: all of a list that do, and no others.
pub record AreAdded (test : ℕ → Bool) (list : List ℕ) (old new : Numbers) : Type 0 where
  pub kept : (k : ℕ) → set.contains old k ≡ true → set.contains new k ≡ true
  pub all : (k : ℕ) → Contains list k → test k ≡ true → set.contains new k ≡ true
  pub right : ((k : ℕ) → set.contains old k ≡ true → test k ≡ true)
      → (k : ℕ) → set.contains new k ≡ true → test k ≡ true

-- the same for the lists of the facts that are true
pub record AreDueAdded (test : ℕ → Bool) (lists : List (List ℕ)) (facts : Numbers) (old new : Numbers) : Type 0 where
  pub kept : (k : ℕ) → set.contains old k ≡ true → set.contains new k ≡ true
  pub all : (k : ℕ) → IsDue lists facts k → test k ≡ true → set.contains new k ≡ true
  pub right : ((k : ℕ) → set.contains old k ≡ true → test k ≡ true)
      → (k : ℕ) → set.contains new k ≡ true → test k ≡ true
