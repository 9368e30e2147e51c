-- The least of costs that may be missing.
use Rattle.std.specs.Prelude.{ℕ, nat_le, List, [], ◌∷◌, Option, Some, None, if◌then◌else◌}

-- the lesser of two costs, where no cost is above every cost
abbrev pub lesser : Option ℕ → Option ℕ → Option ℕ
lesser None b = b
lesser (Some a) None = Some a
lesser (Some a) (Some b) = if nat_le a b then Some a else Some b

-- the least of a list of costs: none where all are missing
abbrev pub least_of : List (Option ℕ) → Option ℕ
least_of [] = None
least_of (c ∷ cs) = lesser c (least_of cs)
