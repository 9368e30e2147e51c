-- Lists that rise strictly, and the keys of a map that has nothing at each of them.
use Rattle.mp_ground_facts.proofs.Basics.{◌≡◌, ◌+◌, Bool, true, false, ◌&&◌, List, [], ◌∷◌, map, refl, sym, ap, subst, ◌∙◌, arith, Some, Less, list_any, IsDistinct, AllByRecursion, IsSorted, IsStrictlySortedBy, eq_by_cmp}
use Rattle.mp_ground_facts.proofs.Basics.{is_eq, IsTotalOrder, IsAntisymmetric}
use Rattle.std.proofs.Common.{Option, None, Ordering, Equal, Greater, is_some}
use Rattle.std.specs.Prelude.{T}
use Rattle.std.specs.Ordering.{is_lt, ordering_reverse}
use Rattle.std.specs.FinMap.{FinMap, entries, entries_sorted, from_entries, keys, get-entries, get-from_entries, contains_key-keys}
use Rattle.std.specs.FinMap.Entries.{below_all, find, is_some-find, is_sorted, same_entries}
use Rattle.std.proofs.lemmas.Map.Keys.{apart_from_distinct, sorted_from_all_adjacent}
use Rattle.mp_ground_facts.specs.Ground.{with_nothing}

both : (a b : Bool) → T a → T b → T (a && b)
both true b p q = q
both false b p q = p

split : (a b : Bool) → T (a && b) → T a × T b
split true b p = (tt, p)
split false b p = absurd p

less_of : (o : Ordering) → is_lt (ordering_reverse o) ≡ false → is_eq o ≡ false → o ≡ Less
less_of Less not_above differ = refl
less_of Equal not_above differ = absurd (cc)
less_of Greater not_above differ = absurd (cc)

is_less : (o : Ordering) → o ≡ Less → T (is_lt o)
is_less o e = subst (λ r. T (is_lt r)) (sym e) tt

less_is : (o : Ordering) → T (is_lt o) → o ≡ Less
less_is Less h = refl
less_is Equal h = absurd h
less_is Greater h = absurd h

same_mark : (x y : Option (Unit {0})) → is_some x ≡ is_some y → x ≡ y
same_mark None None e = refl
same_mark None (Some u) e = absurd (cc)
same_mark (Some u) None e = absurd (cc)
same_mark (Some u) (Some v) e = refl

-- a list that is sorted and has no item twice rises strictly
pub strict : {K : Type 0} {R : K → K → Ordering} → IsTotalOrder R → (xs : List K) → IsSorted R xs → IsDistinct (eq_by_cmp R) xs → IsStrictlySortedBy R xs
unfolding IsStrictlySortedBy
strict o [] up differ = tt
strict {R = R} o (x ∷ xs) up differ =
    sorted_from_all_adjacent o (x ∷ xs) x (λ k less.
    less_of _ (ap is_lt (sym (o.antisymm _ _)) ∙ up k x (omega arith) less)
    (apart_from_distinct (eq_by_cmp R) (x ∷ xs) k (k + 1) x differ (omega arith) less))

keys_back : {K : Type 0} (xs : List K) → map (λ (e : K × Unit {0}). e.0) (map with_nothing xs) ≡ xs
keys_back [] = refl
keys_back (x ∷ xs) = λ i. x ∷ keys_back xs i

module _ {K : Type 0} (R : K → K → Ordering) where
  below_of : (x : K) (ys : List K) → AllByRecursion (λ y. R x y ≡ Less) ys → T (below_all R x (map with_nothing ys))
  below_of x [] h = tt
  below_of x (y ∷ ys) h = both _ _ (is_less (R x y) h.0) (below_of x ys h.1)

  sorted_of : (xs : List K) → IsStrictlySortedBy R xs → T (is_sorted R (map with_nothing xs))
  unfolding IsStrictlySortedBy
  sorted_of [] h = tt
  sorted_of (x ∷ xs) h = both _ _ (below_of x xs h.0) (sorted_of xs h.1)

  of_below : (x : K) (es : List (K × Unit {0})) → T (below_all R x es) → AllByRecursion (λ y. R x y ≡ Less) (map (λ e. e.0) es)
  of_below x [] h = tt
  of_below x (e ∷ es) h = let parts = split _ _ h in (less_is _ parts.0, of_below x es parts.1)

  of_sorted : (es : List (K × Unit {0})) → T (is_sorted R es) → IsStrictlySortedBy R (map (λ e. e.0) es)
  unfolding IsStrictlySortedBy
  of_sorted [] h = tt
  of_sorted (e ∷ es) h = let parts = split _ _ h in (of_below e.0 es parts.0, of_sorted es parts.1)

  has_key : (q : K) (xs : List K) → is_some (find R q (map with_nothing xs)) ≡ list_any (eq_by_cmp R q) xs
  has_key q xs = is_some-find R q (map with_nothing xs) ∙ ap (list_any (eq_by_cmp R q)) (keys_back xs)

  -- the keys of a map rise strictly
  pub keys_strict : (m : FinMap R (Unit {0})) → IsStrictlySortedBy R (keys m)
  keys_strict m = of_sorted (entries m) (entries_sorted m)

module _ {K : Type 0} {R : K → K → Ordering} (o : IsTotalOrder R) where
  -- the keys of the map of a list are its items
  pub has_keys : (xs : List K) (q : K) → list_any (eq_by_cmp R q) (keys (from_entries {R = R} (map with_nothing xs))) ≡ list_any (eq_by_cmp R q) xs
  has_keys xs q =
      let m = from_entries {R = R} (map with_nothing xs) in
      sym (contains_key-keys m q) ∙ ap is_some (get-from_entries o (map with_nothing xs) q) ∙ has_key R q xs

  -- a list that rises strictly and has the items of another is the list of the keys of the other's map
  pub keys_are : IsAntisymmetric R → (xs ys : List K) → IsStrictlySortedBy R xs → ((q : K) → list_any (eq_by_cmp R q) xs ≡ list_any (eq_by_cmp R q) ys) → xs ≡ keys (from_entries {R = R} (map with_nothing ys))
  keys_are same xs ys rises items =
      let m = from_entries {R = R} (map with_nothing ys) in
      let found : (q : K) → find R q (map with_nothing xs) ≡ find R q (entries m) =
      λ q. same_mark _ _ (has_key R q xs ∙ items q ∙ sym (has_key R q ys)) ∙ sym (get-from_entries o (map with_nothing ys) q) ∙ get-entries m q in
      let all : map with_nothing xs ≡ entries m = same_entries R o same (map with_nothing xs) (entries m) (sorted_of R xs rises) (entries_sorted m) found in
      sym (keys_back xs) ∙ ap (map (λ (e : K × Unit {0}). e.0)) all
