-- Lists in an order: that they rise, and what they have.
use Rattle.mp_views.proofs.Basics.{◌≡◌, Bool, true, false, ◌&&◌, List, [], ◌∷◌, map, refl, sym, ap, ◌∙◌, Ordering, Less, Equal, Greater, IsTotalOrder, slice_cmp, nat_list_cmp_total, texts_ties, entries, from_entries, list_any, AllByRecursion}
use Rattle.mp_views.proofs.Basics.{IsStrictlySortedBy, eq_by_cmp, is_lt, match_ordering, nat_cmp, insert_key, Text, is_listed, sorted_by, sorted_once, with_nothing}
use Rattle.std.proofs.Common.{is_some}
use Rattle.std.specs.Prelude.{T}
use Rattle.std.specs.FinMap.{entries_sorted, get-from_entries, contains_key-keys}
use Rattle.std.specs.FinMap.Entries.{below_all, is_some-find, is_sorted}
use Rattle.mp_views.proofs.SortedLemmas.{key, sorted_none, sorted_one_more}

first : (a b : Bool) → T (a && b) → T a
first true b p = tt
first false b p = p

second : (a b : Bool) → T (a && b) → T b
second true b p = p
second false b p = absurd p

less_is : (o : Ordering) → T (is_lt o) → o ≡ Less
less_is Less h = refl
less_is Equal h = absurd h
less_is Greater h = absurd h

keys_back : {K : Type 0} (xs : List K) → map key (map with_nothing xs) ≡ xs
keys_back [] = refl
keys_back (x ∷ xs) = λ i. x ∷ keys_back xs i

module _ {K : Type 0} (R : K → K → Ordering) where
  of_below : (x : K) (es : List (K × Unit {0})) → T (below_all R x es) → AllByRecursion (λ y. R x y ≡ Less) (map key es)
  of_below x [] h = tt
  of_below x (e ∷ es) h = (less_is (R x e.0) (first _ _ h), of_below x es (second _ _ h))

  of_sorted : (es : List (K × Unit {0})) → T (is_sorted R es) → IsStrictlySortedBy R (map key es)
  unfolding IsStrictlySortedBy
  of_sorted [] h = tt
  of_sorted (e ∷ es) h = (of_below e.0 es (first _ _ h), of_sorted es (second _ _ h))

  -- they rise
  pub rises : (xs : List K) → IsStrictlySortedBy R (sorted_by R xs)
  unfolding sorted_by
  rises xs = let m = from_entries {R = R} (map with_nothing xs) in of_sorted (entries m) (entries_sorted m)

  below_first : (x : K) (xs : List K) → AllByRecursion (λ y. R x y ≡ Less) xs → insert_key R xs x ≡ x ∷ xs
  below_first x [] h = refl
  below_first x (y ∷ ys) h = λ i. match_ordering (h.0 i) (x ∷ y ∷ ys) (y ∷ ys) (y ∷ insert_key R ys x)

module _ {K : Type 0} {R : K → K → Ordering} (o : IsTotalOrder R) where
  -- they are those of the list
  pub same_members : (xs : List K) (q : K) → list_any (eq_by_cmp R q) (sorted_by R xs) ≡ list_any (eq_by_cmp R q) xs
  unfolding sorted_by
  same_members xs q =
      let m = from_entries {R = R} (map with_nothing xs) in
      sym (contains_key-keys m q) ∙ ap is_some (get-from_entries o (map with_nothing xs) q)
      ∙ is_some-find R q (map with_nothing xs) ∙ ap (list_any (eq_by_cmp R q)) (keys_back xs)

  -- what rises already stays
  pub unchanged : (xs : List K) → IsStrictlySortedBy R xs → sorted_by R xs ≡ xs
  unfolding IsStrictlySortedBy
  unchanged [] h = sorted_none R
  unchanged (x ∷ xs) h = sorted_one_more o x xs ∙ ap (λ (ks : List K). insert_key R ks x) (unchanged xs h.1) ∙ below_first R x xs h.0

-- the same of texts
pub tied : (q : Text) (xs : List Text) → is_listed q xs ≡ list_any (eq_by_cmp (slice_cmp nat_cmp) q) xs
tied q xs = λ i. list_any (λ x. texts_ties q x i) xs

pub texts_rise : (texts : List Text) → IsStrictlySortedBy (slice_cmp nat_cmp) (sorted_once texts)
texts_rise texts = rises (slice_cmp nat_cmp) texts

pub same_texts : (texts : List Text) (q : Text) → is_listed q (sorted_once texts) ≡ is_listed q texts
same_texts texts q = tied q (sorted_once texts) ∙ same_members nat_list_cmp_total texts q ∙ sym (tied q texts)

pub texts_unchanged : (texts : List Text) → IsStrictlySortedBy (slice_cmp nat_cmp) texts → sorted_once texts ≡ texts
texts_unchanged texts h = unchanged nat_list_cmp_total texts h
