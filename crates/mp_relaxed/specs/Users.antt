-- Which rows have a number, and how many numbers each has.
use Rattle.std.specs.Prelude.{◌≡◌, ◌≢◌, ℕ, ◌+◌, ◌==◌, ◌<◌, List, [], ◌∷◌, length, map, slice_index_or, All, Contains, if◌then◌else◌}

-- how often a number stands in a list
abbrev pub times : ℕ → List ℕ → ℕ
times k [] = 0
times k (x ∷ xs) = if x == k then times k xs + 1 else times k xs

-- For each number below a size a list that has each row as often as that number stands in it, and rows alone.
pub record AreUsers (size : ℕ) (rows users : List (List ℕ)) : Type 0 where
  pub sized : length users ≡ size
  pub rows_alone : All (All (λ k. k < length rows)) users
  pub all :
      (k x : ℕ)
      → k < length rows
      → times x (slice_index_or rows k []) ≡ times k (slice_index_or users x [])

-- lists after a number has been taken into those that another list names
pub record Takes (old : List (List ℕ)) (places : List ℕ) (number : ℕ) (new : List (List ℕ)) : Type 0 where
  pub as_many : length new ≡ length old
  pub kept :
      (x k : ℕ)
      → k ≢ number
      → times k (slice_index_or new x []) ≡ times k (slice_index_or old x [])
  pub taken :
      (x : ℕ)
      → times number (slice_index_or new x [])
      ≡ times number (slice_index_or old x []) + times x places
  pub bounded :
      (n : ℕ)
      → number < n
      → All (All (λ k. k < n)) old
      → All (All (λ k. k < n)) new

-- the numbers of rows have each empty row
pub record AreFree (rows : List (List ℕ)) (free : List ℕ) : Type 0 where
  pub rows_alone : All (λ k. k < length rows) free
  pub empty_alone : All (λ k. slice_index_or rows k [] ≡ []) free
  pub all : (k : ℕ) → k < length rows → slice_index_or rows k [] ≡ [] → Contains free k

-- how many numbers each row has
abbrev pub AreCounts : List (List ℕ) → List ℕ → Type 0
AreCounts rows counts = counts ≡ map length rows
