-- Readings: which value, or which refusal, something leads to; and readings one after another.
use Rattle.std.specs.Prelude.{◌≡◌, ◌<◌, ◌⊎◌, ℕ, List, length, Some, Result, Ok, Err, slice_get}
use Rattle.mp_files.specs.declared.refusal.Refusal.{Refusal}
use Rattle.mp_files.specs.declared.refusal.Refusal.TheVariants as why

abbrev pub Reading : Type 0 → Type 1
Reading X = Result X Refusal → Type 0

-- it leads to this value alone
abbrev pub Gives : {X : Type 0} → X → Reading X
Gives x (Ok y) = y ≡ x
Gives x (Err r) = ⊥

-- the first reading, and where it leads to a value, the next one
abbrev pub Then : {X Y : Type 0} → Reading X → (X → Reading Y) → Reading Y
Then {X} first next (Ok y) = (x : X) × first (Ok x) × next x (Ok y)
Then {X} first next (Err r) = first (Err r) ⊎ ((x : X) × first (Ok x) × next x (Err r))

-- each of the first items leads to its value; an item is read by its place, from 0
pub record AreRead {X Y : Type 0} (read : ℕ → X → Reading Y) (items : List X) (values : List Y) : Type 0 where
  pub each :
      (place : ℕ) (x : X) (y : Y)
      → slice_get items place ≡ Some x → slice_get values place ≡ Some y
      → read place x (Ok y)

-- one item is refused, and each before it leads to a value
pub record IsRefused {X Y : Type 0} (read : ℕ → X → Reading Y) (items : List X) (r : Refusal) : Type 0 where
  pub place : ℕ
  pub item : X
  pub at : slice_get items place ≡ Some item
  pub refused : read place item (Err r)
  pub earlier : (before : ℕ) (x : X) → before < place → slice_get items before ≡ Some x → (y : Y) × read before x (Ok y)

-- the readings of all items, one after another
abbrev pub Each : {X Y : Type 0} → (ℕ → X → Reading Y) → List X → Reading (List Y)
Each read items (Ok values) = (length values ≡ length items) × AreRead read items values
Each {X} {Y} read items (Err r) = IsRefused {X = X} {Y = Y} read items r

-- a reading leads to this refusal, or memory ran out
abbrev pub Refuses : {X : Type 0} → Reading X → Refusal → Type 0
Refuses reading (why.Read at) = reading (Err (why.Read at))
Refuses reading (why.TooLarge at) = reading (Err (why.TooLarge at))
Refuses reading (why.Fault at kind place) = reading (Err (why.Fault at kind place))
Refuses reading why.OutOfMemory = Unit {0}
