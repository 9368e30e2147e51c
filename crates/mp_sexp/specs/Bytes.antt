-- The bytes of a factor file's text, by their kinds, and how letters are folded.
use Rattle.std.specs.Prelude.{ℕ, ◌≡◌, ◌+◌, ◌≤◌, ◌⊎◌, List, map, nat_le, ◌&&◌, ◌||◌, ◌==◌, Bool, if◌then◌else◌}

-- tab, line feed, carriage return and blank
abbrev pub IsSpace : ℕ → Type 0
IsSpace b = (b ≡ 9) ⊎ (b ≡ 10) ⊎ (b ≡ 13) ⊎ (b ≡ 32)

abbrev pub is_space : ℕ → Bool
is_space b = b == 9 || b == 10 || b == 13 || b == 32

abbrev pub open_bracket : ℕ
open_bracket = 40

abbrev pub close_bracket : ℕ
close_bracket = 41

-- what begins a comment
abbrev pub semicolon : ℕ
semicolon = 59

abbrev pub line_feed : ℕ
line_feed = 10

-- a byte of a word: visible ASCII other than brackets and semicolon
abbrev pub IsWordByte : ℕ → Type 0
IsWordByte b = (33 ≤ b) × (b ≤ 126) × (b ≡ open_bracket → ⊥) × (b ≡ close_bracket → ⊥) × (b ≡ semicolon → ⊥)

-- A to Z become a to z
abbrev pub folded_byte : ℕ → ℕ
folded_byte b = if nat_le 65 b && nat_le b 90 then b + 32 else b

abbrev pub folded : List ℕ → List ℕ
folded bytes = map folded_byte bytes
