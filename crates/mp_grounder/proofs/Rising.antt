-- Lists in an order are told by their members; lists of places rise.
use Rattle.mp_grounder.proofs.Basics.{arith, ◌≡◌, ℕ, ◌≤◌, Bool, true, List, length, Some, slice_get, sym, ◌∙◌, Ordering, Contains, nat_cmp-IsAntisymmetric, list_any}
use Rattle.mp_grounder.proofs.Basics.{IsStrictlyIncreasing, IsStrictlySortedBy, eq_by_cmp, nat_cmp, IsStrictlyIncreasing-dedup, same_tests, any_from}
use Rattle.mp_grounder.proofs.Basics.{some_member, sorted_by, numbers_where}
use Rattle.std.proofs.Common.{eqb}
use Rattle.std.specs.Cmp.{IsTotalOrder}
use Rattle.std.specs.FinMap.{IsAntisymmetric}
use Rattle.std.specs.List.{dedup}
use Rattle.std.specs.List.Sorted.{IsPermutation, IsSorted}
use Rattle.std.proofs.lemmas.Cmp.{nat_cmp_total}
use Rattle.std.proofs.lemmas.List.Kept.{Contains-dedup_nat, Contains-from_dedup}
use Rattle.std.proofs.lemmas.List.Sorted.{Contains-permutation, IsPermutation-sym}
use Rattle.std.proofs.lemmas.Map.Keys.{IsStrictlyIncreasing-from_sorted, sorted_from_strictly_increasing}
use Rattle.mp_ground_facts.proofs.Strict.{keys_are}
use Rattle.mp_typing.proofs.Placing.{passing_place, place_passes, places_rise}
use Rattle.mp_views.proofs.SortedLaws.{rises, same_members, unchanged}

-- ---- one list in an order has some members

module _ {K : Type 0} {R : K → K → Ordering} (o : IsTotalOrder R) (one : IsAntisymmetric R) where
  passes : (xs ys : List K) → ((q : K) → Contains xs q → Contains ys q) → (q : K) → list_any (eq_by_cmp R q) xs ≡ true → list_any (eq_by_cmp R q) ys ≡ true
  passes xs ys each q h =
      let found = some_member (eq_by_cmp R q) xs h in
      any_from (eq_by_cmp R q) ys found.0 (each found.0 found.1) found.2

  -- lists with the same items are the same in order
  pub same_in_order : (xs ys : List K) → ((q : K) → Contains xs q → Contains ys q) → ((q : K) → Contains ys q → Contains xs q) → sorted_by R xs ≡ sorted_by R ys
  unfolding sorted_by
  same_in_order xs ys there back =
      keys_are o one (sorted_by R xs) ys (rises R xs) (λ q. same_members o xs q ∙ same_tests _ _ (passes xs ys there q) (passes ys xs back q))

  -- what rises and has the items of a list is that list in order, each item once
  pub sorted_is : (xs ys : List K) → IsStrictlySortedBy R xs → ((q : K) → Contains xs q → Contains ys q) → ((q : K) → Contains ys q → Contains xs q) → xs ≡ sorted_by R ys
  sorted_is xs ys up there back = sym (unchanged o xs up) ∙ same_in_order xs ys there back

-- ---- the places of the items that pass a test

-- the numbers of a list, in order, are the places of the items that pass, where each of them is such a place and each such
-- place is one of them
pub sorted_places : {X : Type 0} (test : X → Bool) (xs : List X) (ns : List ℕ)
    → ((n : ℕ) → Contains ns n → (x : X) × (slice_get xs n ≡ Some x) × (test x ≡ true))
    → ((n : ℕ) (x : X) → slice_get xs n ≡ Some x → test x ≡ true → Contains ns n)
    → sorted_by nat_cmp ns ≡ numbers_where 0 test xs
sorted_places test xs ns there back =
    sym (sorted_is nat_cmp_total nat_cmp-IsAntisymmetric (numbers_where 0 test xs) ns
    (sorted_from_strictly_increasing (numbers_where 0 test xs) (places_rise test 0 xs))
    (λ n found. let p = place_passes test xs n found in back n p.0 p.1 p.2)
    (λ n found. let h = there n found in passing_place test xs n h.0 h.1 h.2))

-- numbers that are sorted, each once, are the numbers in order
pub sorted_numbers : (ns sorted : List ℕ) → IsPermutation ns sorted → IsSorted nat_cmp sorted → dedup eqb sorted ≡ sorted_by nat_cmp ns
sorted_numbers ns sorted moved up =
    sorted_is nat_cmp_total nat_cmp-IsAntisymmetric (dedup eqb sorted) ns
    (sorted_from_strictly_increasing (dedup eqb sorted) (IsStrictlyIncreasing-dedup sorted up))
    (λ n found. Contains-permutation sorted ns n (IsPermutation-sym ns sorted moved) (Contains-from_dedup eqb sorted n found))
    (λ n found. Contains-dedup_nat sorted n (Contains-permutation ns sorted n moved found))

-- so they rise
pub rising_increases : (ns : List ℕ) → IsStrictlyIncreasing (sorted_by nat_cmp ns)
rising_increases ns = IsStrictlyIncreasing-from_sorted (sorted_by nat_cmp ns) (rises nat_cmp ns)

-- one number, or none, rises as it is
pub few_sorted : (ns : List ℕ) → length ns ≤ 1 → ns ≡ sorted_by nat_cmp ns
few_sorted ns few =
    let rises : IsStrictlyIncreasing ns = λ k lt. absurd (omega (arith, few, lt)) in
    sorted_is nat_cmp_total nat_cmp-IsAntisymmetric ns ns (sorted_from_strictly_increasing ns rises) (λ n found. found) (λ n found. found)
