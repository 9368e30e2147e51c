-- What holds of the items of a list holds of those in order, and these are no more.
use Rattle.mp_split.proofs.Basics.{arith, suc, ◌≤◌, List, [], ◌∷◌, length, All, Less, IsTotalOrder, All-from_recursion}
use Rattle.std.proofs.Common.{Ordering, Equal, Greater}
use Rattle.std.proofs.lemmas.List.Elements.{recursion_from_All}
use Rattle.std.specs.List.{AllByRecursion}
use Rattle.std.specs.Ordering.{match_ordering}
use Rattle.std.specs.BTreeSet.{insert_key}
use Rattle.mp_views.specs.Sorted.{sorted_by}
use Rattle.mp_views.proofs.SortedLemmas.{sorted_none, sorted_one_more}

module _ {K : Type 0} {R : K → K → Ordering} (o : IsTotalOrder R) (P : K → Type 0) where
  inserted : (ks : List K) (k : K) → P k → AllByRecursion P ks
      → AllByRecursion P (insert_key R ks k) × (length (insert_key R ks k) ≤ suc (length ks))
  inserted [] k h hs = ((h, tt), omega arith)
  inserted (x ∷ ks) k h hs =
      let rest = inserted ks k h hs.1 in
      elim (R k x) as (λ (r : Ordering). AllByRecursion P (match_ordering r (k ∷ x ∷ ks) (x ∷ ks) (x ∷ insert_key R ks k))
      × (length (match_ordering r (k ∷ x ∷ ks) (x ∷ ks) (x ∷ insert_key R ks k)) ≤ suc (suc (length ks)))) [
        | Less ↦ ((h, hs), omega arith)
        | Equal ↦ (hs, omega arith)
        | Greater ↦ ((hs.0, rest.0), omega (arith, rest.1))
      ]

  in_order : (xs : List K) → AllByRecursion P xs → AllByRecursion P (sorted_by R xs) × (length (sorted_by R xs) ≤ length xs)
  in_order [] h = rw (sorted_none R) (tt, omega arith)
  in_order (x ∷ xs) h =
      let rest = in_order xs h.1 in
      let one = inserted (sorted_by R xs) x h.0 rest.0 in
      rw (sorted_one_more o x xs) (one.0, omega (arith, one.1, rest.1))

  pub each_in_order : (xs : List K) → All P xs → All P (sorted_by R xs)
  each_in_order xs h = All-from_recursion P (sorted_by R xs) (in_order xs (recursion_from_All P xs h)).0

pub in_order_short : {K : Type 0} {R : K → K → Ordering} → IsTotalOrder R → (xs : List K) → length (sorted_by R xs) ≤ length xs
in_order_short o xs = (in_order o (λ _. Unit {0}) xs (recursion_from_All (λ _. Unit {0}) xs (λ k d lt. tt))).1
