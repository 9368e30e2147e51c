-- Sets kept as lists of 64-bit words: bit x % 64 of word x / 64 says whether x is a member.
use Rattle.std.specs.Prelude.{ℕ, ◌+◌, ◌/◌, ◌%◌, ◌<◌, ◌≤◌, Bool, true, false, List, length, slice_index, ◌==◌, ◌≡◌}
use Rattle.std.specs.Int.{bit_at}

-- a bit of the words, counted from the lowest bit of the first
unfoldable pub has_bit : List ℕ → ℕ → Bool
has_bit words x = bit_at (slice_index words (x / 64)) (x % 64) == 1

-- how many words the numbers below a size need
abbrev pub words_for : ℕ → ℕ
words_for size = (size + 63) / 64

-- As many words as the numbers below a size need, and no bit at or above the size, so that different words
-- are different sets.
pub record ArePacked (size : ℕ) (words : List ℕ) : Type 0 where
  pub long : length words ≡ words_for size
  pub clear : (x : ℕ) → size ≤ x → has_bit words x ≡ false

-- a bit is the first one set at or above a place
pub record IsFirstFrom (words : List ℕ) (from x : ℕ) : Type 0 where
  pub set : has_bit words x ≡ true
  pub above : from ≤ x
  pub first : (y : ℕ) → from ≤ y → y < x → has_bit words y ≡ false
