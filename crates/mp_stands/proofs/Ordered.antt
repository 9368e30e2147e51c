-- Lists in an order: that two with the same members are one, and what members the ordered list of some items has.
use Rattle.std.proofs.Common.{arith, ◌≡◌, List, [], ◌∷◌, ◌++◌, AllPairs, Ordering, Less, Equal, Greater, get_or, refl, sym, ap, ◌∙◌, subst, inl, inr}
use Rattle.std.proofs.lemmas.Bool.{false≢true}
use Rattle.std.proofs.lemmas.Cmp.{tied_itself}
use Rattle.std.proofs.lemmas.List.Elements.{Contains-get_or, Contains-append_cases}
use Rattle.std.proofs.lemmas.List.Kept.{AllPairs-cons}
use Rattle.std.specs.BTreeSet.{insert_key}
use Rattle.std.specs.Cmp.{IsTotalOrder}
use Rattle.std.specs.List.{AllByRecursion}
use Rattle.std.specs.List.Sorted.{IsStrictlySortedBy}
use Rattle.std.specs.Ordering.{is_lt, match_ordering}
use Rattle.std.specs.Prelude.{Contains}
use Rattle.mp_list.proofs.Members.{contains_head, contains_tail, contains_cases, no_member}
use Rattle.mp_views.specs.Sorted.{sorted_by}
use Rattle.mp_views.proofs.SortedLemmas.{with_all, all_sorted}

-- ---- a relation between each item and each later one

abbrev pub AllLater : {X : Type 0} → (X → X → Type 0) → List X → Type 0
AllLater R [] = Unit {0}
AllLater {X} R (x ∷ xs) = ((y : X) → Contains xs y → R x y) × AllLater R xs

pub later_pairs : {X : Type 0} (R : X → X → Type 0) (xs : List X) → AllLater R xs → AllPairs R xs
later_pairs R [] h = λ i j d less within. absurd (omega (arith, within))
later_pairs R (x ∷ xs) h = AllPairs-cons R x xs (λ k d less. h.0 (get_or xs k d) (Contains-get_or xs k d less)) (later_pairs R xs h.1)

pub later_append : {X : Type 0} (R : X → X → Type 0) (xs ys : List X) → AllLater R xs → AllLater R ys
    → ((x y : X) → Contains xs x → Contains ys y → R x y) → AllLater R (xs ++ ys)
later_append R [] ys h k across = k
later_append R (x ∷ xs) ys h k across = (
  λ y found.
      elim (Contains-append_cases xs ys y found) [
        | inl first ↦ h.0 y first
        | inr second ↦ across x y (contains_head x xs) second
      ],
  later_append R xs ys h.1 k (λ a b first second. across a b (contains_tail x xs a first) second),
)

-- ---- two lists that rise

less_than : {X : Type 0} (order : X → X → Ordering) (x : X) (ys : List X) → AllByRecursion (λ y. order x y ≡ Less) ys → (y : X) → Contains ys y → order x y ≡ Less
less_than order x [] h y found = absurd (no_member y found)
less_than order x (z ∷ zs) h y found =
    elim (contains_cases z zs y found) [
      | inl here ↦ ap (order x) (sym here) ∙ h.0
      | inr there ↦ less_than order x zs h.1 y there
    ]

module _ {X : Type 0} {order : X → X → Ordering} (total : IsTotalOrder order) where
  not_after : (x y : X) → order x y ≡ Less → order y x ≡ Less → ⊥
  not_after x y h k = false≢true (ap is_lt (sym (tied_itself total x) ∙ total.trans x y x h k))

  not_itself : (x : X) → order x x ≡ Less → ⊥
  not_itself x h = false≢true (ap is_lt (sym (tied_itself total x) ∙ h))

  pub same_rising : (xs ys : List X) → IsStrictlySortedBy order xs → IsStrictlySortedBy order ys
      → ((x : X) → Contains xs x → Contains ys x) → ((y : X) → Contains ys y → Contains xs y) → xs ≡ ys
  unfolding IsStrictlySortedBy
  same_rising [] [] h k there back = refl
  same_rising [] (y ∷ ys) h k there back = absurd (no_member y (back y (contains_head y ys)))
  same_rising (x ∷ xs) [] h k there back = absurd (no_member x (there x (contains_head x xs)))
  same_rising (x ∷ xs) (y ∷ ys) h k there back =
      let first : x ≡ y =
      elim (contains_cases y ys x (there x (contains_head x xs))) [
        | inl here ↦ sym here
        | inr later ↦
            elim (contains_cases x xs y (back y (contains_head y ys))) [
              | inl here ↦ here
              | inr again ↦ absurd (not_after x y (less_than order x xs h.0 y again) (less_than order y ys k.0 x later))
            ]
      ] in
      let rest = same_rising xs ys h.1 k.1
      (λ z found.
      elim (contains_cases y ys z (there z (contains_tail x xs z found))) [
        | inl here ↦ absurd (not_itself x (less_than order x xs h.0 x (subst (Contains xs) (sym here ∙ sym first) found)))
        | inr later ↦ later
      ])
      (λ z found.
      elim (contains_cases x xs z (back z (contains_tail y ys z found))) [
        | inl here ↦ absurd (not_itself y (less_than order y ys k.0 y (subst (Contains ys) (sym here ∙ first) found)))
        | inr later ↦ later
      ]) in
      λ i. first i ∷ rest i

-- ---- the members of an ordered list

inserted : {K : Type 0} (order : K → K → Ordering) (ks : List K) (k x : K) → Contains (insert_key order ks k) x → Contains (k ∷ ks) x
inserted order [] k x found = found
inserted {K} order (z ∷ zs) k x found = by (order k z) found (inserted order zs k x)
  where
    by : (o : Ordering) → Contains (match_ordering o (k ∷ z ∷ zs) (z ∷ zs) (z ∷ insert_key order zs k)) x
        → (Contains (insert_key order zs k) x → Contains (k ∷ zs) x) → Contains (k ∷ z ∷ zs) x
    by Less found rest = found
    by Equal found rest = contains_tail k (z ∷ zs) x found
    by Greater found rest =
        elim (contains_cases z (insert_key order zs k) x found) [
          | inl here ↦ subst (Contains (k ∷ z ∷ zs)) here (contains_tail k (z ∷ zs) z (contains_head z zs))
          | inr there ↦
              elim (contains_cases k zs x (rest there)) [
                | inl first ↦ subst (Contains (k ∷ z ∷ zs)) first (contains_head k (z ∷ zs))
                | inr later ↦ contains_tail k (z ∷ zs) x (contains_tail z zs x later)
              ]
        ]

from_all : {K : Type 0} (order : K → K → Ordering) (xs : List K) (x : K) → Contains (with_all order xs []) x → Contains xs x
from_all order [] x found = found
from_all order (z ∷ zs) x found =
    elim (contains_cases z (with_all order zs []) x (inserted order (with_all order zs []) z x found)) [
      | inl here ↦ subst (Contains (z ∷ zs)) here (contains_head z zs)
      | inr there ↦ contains_tail z zs x (from_all order zs x there)
    ]

pub from_sorted : {K : Type 0} {order : K → K → Ordering} (total : IsTotalOrder order) (xs : List K) (x : K) → Contains (sorted_by order xs) x → Contains xs x
from_sorted {K} {order} total xs x found = from_all order xs x (subst (λ ks. Contains ks x) (sym (all_sorted total xs)) found)
