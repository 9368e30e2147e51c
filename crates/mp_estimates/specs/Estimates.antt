-- Costs of what may be out of reach: none, for what is out of reach, stands above every number.
use Rattle.std.specs.Prelude.{ℕ, ◌≤◌, min, max, Option, Some, None, IfSome, IsSomeAnd}

-- what each of some things costs, by their numbers
abbrev pub Values : Type 0
Values = ℕ → Option ℕ

-- the order of costs
abbrev pub AtMost : Option ℕ → Option ℕ → Type 0
AtMost a b = IfSome b (λ n. IsSomeAnd a (λ m. m ≤ n))

abbrev pub lesser : Option ℕ → Option ℕ → Option ℕ
lesser None b = b
lesser (Some m) None = Some m
lesser (Some m) (Some n) = Some (min m n)

abbrev pub greater : Option ℕ → Option ℕ → Option ℕ
greater None b = None
greater (Some m) None = None
greater (Some m) (Some n) = Some (max m n)
