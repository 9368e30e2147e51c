-- Sets of facts of a pattern as binary numbers: bit i says whether the pattern's fact at place i is a member.
use Rattle.std.specs.Prelude.{◌≡◌, ℕ, ◌==◌, ◌&&◌, ◌<◌, ◌≤◌, nat_lt, Bool, List, length, slice_index}
use Rattle.std.specs.Int.{bit_at}

abbrev pub bit : ℕ → ℕ → Bool
bit mask i = bit_at mask i == 1

-- a mask has those of a pattern's first facts that pass a test
pub record ShowsFirst (n : ℕ) (pattern : List ℕ) (test : ℕ → Bool) (mask : ℕ) : Type 0 where
  pub bits : (i : ℕ) → bit mask i ≡ (nat_lt i n && test (slice_index pattern i))

-- those of all its facts
abbrev pub Shows : List ℕ → (ℕ → Bool) → ℕ → Type 0
Shows pattern test mask = ShowsFirst (length pattern) pattern test mask

-- a pattern of facts below a size
pub record SizedPattern : Type 0 where
  pub size : ℕ
  pub facts : List ℕ

-- masks of single facts: for each fact below a size where it stands in a pattern
pub record ArePlaces (pattern : List ℕ) (places : List ℕ) : Type 0 where
  pub few : length pattern ≤ 12
  pub small : length places < 4294967296
  pub below : (i : ℕ) → i < length pattern → slice_index pattern i < length places
  pub shown : (x : ℕ) → x < length places → Shows pattern (λ y. x == y) (slice_index places x)
