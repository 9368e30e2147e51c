-- What a sink tells of the bytes that it was given, where it does.
use Rattle.std.specs.Prelude.{◌≡◌, ℕ, ◌-◌, ◌^◌, nat_lt, List, ◌++◌, take, Option, Some, None, if◌then◌else◌, ⊤}

-- Known bytes grew by some beginning of a text, which may be empty or all of it. The sink may also have
-- stopped telling its bytes.
abbrev pub AppendsBeginning : Option (List ℕ) → Option (List ℕ) → List ℕ → Type 0
AppendsBeginning None new text = ⊤
AppendsBeginning (Some xs) None text = ⊤
AppendsBeginning (Some xs) (Some ys) text = (n : ℕ) × (ys ≡ xs ++ take n text)

-- what a sink tells that counts its faults in 64 bits: its bytes, as long as the count can rise
abbrev pub told : ℕ → Option (List ℕ) → Option (List ℕ)
told faults bytes = if nat_lt faults (2 ^ 64 - 1) then bytes else None
