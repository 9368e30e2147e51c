-- The items of a list in an order, added one by one.
use Rattle.mp_views.proofs.Basics.{◌≡◌, List, [], ◌∷◌, ◌++◌, map, length, refl, sym, ap, ◌∙◌, Ordering, Less, Equal, Greater, tied_itself, IsTotalOrder, entries, from_entries, match_ordering, insert_key}
use Rattle.mp_views.proofs.Basics.{sorted_by, with_nothing}
use Rattle.std.proofs.Common.{arith}
use Rattle.std.specs.FinMap.{empty, entries-insert, len-empty, len-entries}
use Rattle.std.specs.FinMap.Entries.{put, by_order}

-- the key of an entry that has nothing at it
abbrev pub key : {K : Type 0} → K × Unit {0} → K
key e = e.0

none_at : {K : Type 0} (es : List (K × Unit {0})) → length es ≡ 0 → map key es ≡ []
none_at [] e = refl
none_at (x ∷ es) e = absurd (omega arith)

module _ {K : Type 0} (R : K → K → Ordering) where
  -- the keys of a set to which the items of a list are added, the last one first
  abbrev pub with_all : List K → List K → List K
  with_all [] ks = ks
  with_all (x ∷ xs) ks = insert_key R (with_all xs ks) x

  put_key : (k : K) (es : List (K × Unit {0})) → map key (put R k tt es) ≡ insert_key R (map key es) k
  put_key k [] = refl
  put_key k (e ∷ es) =
      elim (R k e.0) as (λ o. map key (by_order o ((k, tt) ∷ e ∷ es) ((e.0, tt) ∷ es) (e ∷ put R k tt es)) ≡ match_ordering o (k ∷ e.0 ∷ map key es) (e.0 ∷ map key es) (e.0 ∷ insert_key R (map key es) k)) [
        | Less ↦ refl
        | Equal ↦ refl
        | Greater ↦ ap (λ (zs : List K). e.0 ∷ zs) (put_key k es)
      ]

  pub sorted_none : sorted_by R [] ≡ []
  unfolding sorted_by
  sorted_none = none_at (entries (empty {R = R})) (sym (len-entries (empty {X = Unit {0}} {R = R})) ∙ len-empty R (Unit {0}))

module _ {K : Type 0} {R : K → K → Ordering} (o : IsTotalOrder R) where
  pub sorted_one_more : (x : K) (xs : List K) → sorted_by R (x ∷ xs) ≡ insert_key R (sorted_by R xs) x
  unfolding sorted_by
  sorted_one_more x xs =
      let m = from_entries {R = R} (map with_nothing xs) in
      ap (map key) (entries-insert o m x tt) ∙ put_key R x (entries m)

  -- a set to which all items of a list are added has them in order
  pub all_sorted : (xs : List K) → with_all R xs [] ≡ sorted_by R xs
  all_sorted [] = sym (sorted_none R)
  all_sorted (x ∷ xs) = ap (λ (ks : List K). insert_key R ks x) (all_sorted xs) ∙ sym (sorted_one_more x xs)

  twice : (ks : List K) (x : K) → insert_key R (insert_key R ks x) x ≡ insert_key R ks x
  twice [] x = ap (λ (r : Ordering). match_ordering r (x ∷ x ∷ []) (x ∷ []) (x ∷ x ∷ [])) (tied_itself o x)
  twice (y ∷ ks) x = by (R x y) refl (twice ks x)
    where
      by : (r : Ordering) → R x y ≡ r → insert_key R (insert_key R ks x) x ≡ insert_key R ks x
          → insert_key R (match_ordering r (x ∷ y ∷ ks) (y ∷ ks) (y ∷ insert_key R ks x)) x ≡ match_ordering r (x ∷ y ∷ ks) (y ∷ ks) (y ∷ insert_key R ks x)
      by Less e same = ap (λ (r : Ordering). match_ordering r (x ∷ x ∷ y ∷ ks) (x ∷ y ∷ ks) (x ∷ insert_key R (y ∷ ks) x)) (tied_itself o x)
      by Equal e same = ap (λ (r : Ordering). match_ordering r (x ∷ y ∷ ks) (y ∷ ks) (y ∷ insert_key R ks x)) e
      by Greater e same =
          ap (λ (r : Ordering). match_ordering r (x ∷ y ∷ insert_key R ks x) (y ∷ insert_key R ks x) (y ∷ insert_key R (insert_key R ks x) x)) e
          ∙ ap (λ (zs : List K). y ∷ zs) same

  -- an item that stands twice in a row counts once
  pub sorted_twice : (front : List K) (x : K) (rest : List K) → sorted_by R (front ++ x ∷ x ∷ rest) ≡ sorted_by R (front ++ x ∷ rest)
  sorted_twice [] x rest =
      let one = sorted_one_more x rest in
      sorted_one_more x (x ∷ rest) ∙ ap (λ (ks : List K). insert_key R ks x) one ∙ twice (sorted_by R rest) x ∙ sym one
  sorted_twice (y ∷ front) x rest =
      sorted_one_more y (front ++ x ∷ x ∷ rest) ∙ ap (λ (ks : List K). insert_key R ks y) (sorted_twice front x rest)
      ∙ sym (sorted_one_more y (front ++ x ∷ rest))
