-- Calls that are counted from 1, of which some fail.
use Rattle.std.specs.Prelude.{ℕ, Bool, ◌+◌, ◌-◌, ◌^◌, ◌&&◌, ◌==◌, nat_lt, min, List}
use Rattle.std.specs.List.{list_any}

-- the count after one more call, which stops at the top of 64 bits
abbrev pub after_call : ℕ → ℕ
after_call made = min (made + 1) (2 ^ 64 - 1)

-- whether the call after so many fails: its number is among the failing ones
abbrev pub next_fails : ℕ → List ℕ → Bool
next_fails made failing = nat_lt made (2 ^ 64 - 1) && list_any (λ number. number == made + 1) failing
