-- Names: bytes without a capital letter.
use Rattle.std.specs.Prelude.{ℕ, ◌≤◌, ◌==◌, Bool, List, All}
use Rattle.std.specs.Cmp.Lexicographic.{pointwise, slice_cmp}
use Rattle.std.specs.Ordering.{nat_cmp}
use Rattle.std.specs.declared.cmp.Ordering.{Ordering}

-- A to Z
abbrev pub IsCapital : ℕ → Type 0
IsCapital byte = (65 ≤ byte) × (byte ≤ 90)

abbrev pub HasNoCapitals : List ℕ → Type 0
HasNoCapitals bytes = All (λ b. ¬ IsCapital b) bytes

-- whether two names have the same bytes
abbrev pub same_bytes : List ℕ → List ℕ → Bool
same_bytes = pointwise ◌==◌

-- names by their bytes: the first that differs decides, and else the lengths do
abbrev pub byte_order : List ℕ → List ℕ → Ordering
byte_order = slice_cmp nat_cmp
