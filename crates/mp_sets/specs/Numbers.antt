-- Numbers of facts: lists of them that rise, and sets of them.
use Rattle.std.specs.Prelude.{◌≡◌, ℕ, zero, suc, ◌<◌, ◌≤◌, ◌-◌, Bool, true, false, ◌&&◌, IsTrue, List, length, slice_index, if◌then◌else◌, refl}
use Rattle.std.specs.Ordering.{nat_cmp}
use Rattle.std.specs.Coded.{Coded, code_by, coded×, coded_ℕ}
use Rattle.std.specs.List.{list_all, filter, range_with_len}
use Rattle.std.specs.FinSet as set

-- A number is above the last one of a list, so that it may follow it where the list rises.
abbrev pub IsAboveLast : List ℕ → ℕ → Type 0
IsAboveLast numbers x = 0 < length numbers → slice_index numbers (length numbers - 1) < x

-- a set of numbers; equal sets are equal values
abbrev pub Numbers : Type 0
Numbers = set.FinSet nat_cmp

-- all members are below a size
abbrev pub AllBelow : ℕ → Numbers → Type 0
AllBelow size s = (x : ℕ) → IsTrue (set.contains s x) → x < size

-- whether two sets are one: each has the members of the other
abbrev pub same : Numbers → Numbers → Bool
same s t = set.is_subset s t && set.is_subset t s

-- a set of numbers below a size
pub record SizedSet : Type 0 where
  pub size : ℕ
  pub members : Numbers

abbrev pub sized_set_code : Coded SizedSet
sized_set_code =
    code_by (ℕ × Numbers) (coded× coded_ℕ (set.code coded_ℕ)) (λ s. (s.size, s.members)) (λ p. record { size = p.0; members = p.1 }) (λ _. refl)

-- whether all numbers of a list are members
abbrev pub holds : Numbers → List ℕ → Bool
holds s numbers = list_all (set.contains s) numbers

-- The set after an action of STRIPS: without its deletes and with its adds, so that a number that is
-- deleted and added is a member.
abbrev pub after : Numbers → List ℕ → List ℕ → Numbers
after s del add = set.union (set.difference s (set.from_list del)) (set.from_list add)

-- a number is the least member at or above another
pub record IsLeastFrom (s : Numbers) (from x : ℕ) : Type 0 where
  pub member : set.contains s x ≡ true
  pub above : from ≤ x
  pub least : (y : ℕ) → from ≤ y → y < x → set.contains s y ≡ false

-- no member is at or above a number
abbrev pub HasNoneFrom : Numbers → ℕ → Type 0
HasNoneFrom s from = (y : ℕ) → from ≤ y → set.contains s y ≡ false

-- the members below a number, least one first
abbrev pub members_before : Numbers → ℕ → List ℕ
members_before s n = filter (set.contains s) (range_with_len 0 n)

-- the members, least one first
abbrev pub listed : SizedSet → List ℕ
listed s = members_before s.members s.size

-- the numbers below a size that pass a test
unfoldable pub numbers_below : ℕ → (ℕ → Bool) → Numbers
numbers_below zero test = set.empty
numbers_below (suc n) test =
    if test n then set.insert (numbers_below n test) n else numbers_below n test
