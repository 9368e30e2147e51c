-- How sets are compared: sets of one size as the binary numbers whose ones are the members.
use Rattle.std.specs.Prelude.{ℕ, zero, suc, ◌+◌, ◌^◌, Bool, ◌==◌, List, [], ◌∷◌, max, if◌then◌else◌}
use Rattle.std.specs.Ordering.{nat_cmp, on, then_cmp, eq_of_both}
use Rattle.std.specs.declared.cmp.Ordering.{Ordering}
use Rattle.std.specs.Simd.Lanes.{digits_l}
use Rattle.std.specs.FinSet as set
use Rattle.std.specs.List.{flat_map}
use Rattle.std.specs.Hash as fed
use Rattle.mp_sets.specs.Numbers.{Numbers, SizedSet}
use Rattle.mp_sets.specs.Words.{words_for}

-- one more than the greatest number of a list, or 0
abbrev pub past_all : List ℕ → ℕ
past_all [] = 0
past_all (x ∷ xs) = max (x + 1) (past_all xs)

-- the sum of 2 ^ x over the numbers x below n that pass a test
unfoldable pub binary_below : ℕ → (ℕ → Bool) → ℕ
binary_below zero test = 0
binary_below (suc n) test = (if test n then 2 ^ n else 0) + binary_below n test

-- a set as a binary number: the sum of 2 ^ x over its members x
unfoldable pub binary : Numbers → ℕ
binary s = binary_below (past_all (set.items s)) (set.contains s)

-- sets of one size and of one binary number
abbrev pub sized_eq : SizedSet → SizedSet → Bool
sized_eq = eq_of_both (on (λ s. s.size) ◌==◌) (on (λ s. binary s.members) ◌==◌)

-- Sets by their sizes, and those of one size as binary numbers: of two different ones the one that has the
-- greatest number which is in only one of them is the greater.
abbrev pub sized_cmp : SizedSet → SizedSet → Ordering
sized_cmp = then_cmp (on (λ s. s.size) nat_cmp) (on (λ s. binary s.members) nat_cmp)

-- what a set feeds a hash function: its binary number in digits of 64 bits, the least first
abbrev pub sized_writes : SizedSet → List (List ℕ)
sized_writes s = flat_map fed.u64 (digits_l (2 ^ 64) (words_for s.size) (binary s.members))
