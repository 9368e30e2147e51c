-- Facts in rows by their numbers, as the list of entries.
use Rattle.std.specs.Prelude.{◌≡◌, ℕ, ◌+◌, ◌<◌, ◌≤◌, List, [], ◌∷◌, ◌++◌, All, length, map, slice_index_or}
use Rattle.std.specs.declared.vec.Vec.{Vec}
use Rattle.mp_relaxed.specs.declared.places.Places.TheInside.{Inside}
use Rattle.mp_estimates.specs.Lowering.{Key}

module _ {Z : Type 0} where
  -- the facts of rows, each with the number of its row, from a first number on
  abbrev pub placed : ℕ → List (Vec ℕ Z) → List Key
  placed n [] = []
  placed n (row ∷ rows) = map (λ x. (n, x)) row.items ++ placed (n + 1) rows

  -- no row has a fact
  abbrev pub AreEmpty : List (Vec ℕ Z) → Type 0
  AreEmpty rows = All (λ (row : Vec ℕ Z). row.items ≡ []) rows

  -- no row from one number on and below another has a fact
  abbrev pub AreEmptyWithin : ℕ → ℕ → List (Vec ℕ Z) → Type 0
  AreEmptyWithin from to rows =
      (n : ℕ) (d : Vec ℕ Z)
      → from ≤ n
      → n < to
      → n < length rows
      → (slice_index_or rows n d).items ≡ []

  -- the row of a number has a fact, where there is one
  abbrev pub HasFact : ℕ → List (Vec ℕ Z) → Type 0
  HasFact n rows = (d : Vec ℕ Z) → n < length rows → 1 ≤ length (slice_index_or rows n d).items

abbrev pub place_entries : Inside → List Key
place_entries p = placed 0 p.rows.items

-- there are no more rows than numbers that can have one, and those below the least number, and from the end on, are empty
pub record AreRows (p : Inside) : Type 0 where
  pub few : length p.rows.items ≤ 1024
  pub within : p.end ≤ length p.rows.items
  pub in_order : p.least ≤ p.end
  pub below : AreEmptyWithin 0 p.least p.rows.items
  pub above : AreEmptyWithin p.end 1024 p.rows.items
