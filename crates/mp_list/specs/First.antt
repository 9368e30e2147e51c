-- The first item of a list by a strict order: `before a b` says that a comes before b.
use Rattle.std.specs.Prelude.{◌≡◌, Bool, true, false, List, [], ◌∷◌, Option, Some, None, Contains, if◌then◌else◌}

-- it is in the list, and none of the list comes before it
pub record IsFirst {X : Type 0} (before : X → X → Bool) (items : List X) (first : X) : Type 0 where
  pub among : Contains items first
  pub least : (other : X) → Contains items other → before other first ≡ false

-- A strict weak order: no item comes before itself, two items do not come before one another, and what does not come
-- before a second item, which does not come before a third, does not come before the third.
pub record IsStrictOrder {X : Type 0} (before : X → X → Bool) : Type 0 where
  pub itself : (a : X) → before a a ≡ false
  pub turns : (a b : X) → before a b ≡ true → before b a ≡ false
  pub passes : (a b c : X) → before a b ≡ false → before b c ≡ false → before a c ≡ false

-- An order is total where two items that do not come before one another are the same.
abbrev pub IsTotal : {X : Type 0} → (X → X → Bool) → Type 0
IsTotal {X} before = (a b : X) → before a b ≡ false → before b a ≡ false → a ≡ b

-- The earlier of a known item and another: the known one where the other does not come before it.
abbrev pub earlier : {X : Type 0} → (X → X → Bool) → Option X → X → X
earlier before None item = item
earlier before (Some known) item = if before item known then item else known

-- The first of a known item and these, the earlier one in the list where two are level; none where there are none.
abbrev pub leftmost : {X : Type 0} → (X → X → Bool) → Option X → List X → Option X
leftmost before known [] = known
leftmost before known (item ∷ items) = leftmost before (Some (earlier before known item)) items
