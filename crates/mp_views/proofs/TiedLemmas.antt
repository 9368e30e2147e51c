-- The first item of a list that ties with a given one: it tells lists that rise apart, so that sorting by any way that
-- keeps it gives one list.
use Rattle.mp_views.proofs.Basics.{◌≡◌, Bool, true, false, cond, not, ◌&&◌, List, [], ◌∷◌, reverse, refl, sym, ap, ◌∙◌, Ordering, Less, Equal, Greater, false≢true, tied_itself, reverse-append, IsTotalOrder, AllByRecursion}
use Rattle.mp_views.proofs.Basics.{IsSorted, IsStable, IsStrictlySortedBy, eq_by_cmp, is_lt, match_ordering, insert_key, sorted_by}
use Rattle.std.proofs.Common.{inl, inr, Option, None, Some}
use Rattle.std.proofs.lemmas.Bool.{cases_Bool}
use Rattle.std.proofs.lemmas.Cmp.{alike_right}
use Rattle.std.proofs.lemmas.List.Kept.{IsStrictlySortedBy-dedup}
use Rattle.std.proofs.lemmas.List.Sorted.{IsPermutation-reverse, list_any-IsPermutation}
use Rattle.std.proofs.lemmas.List.Folds.{find-append}
use Rattle.std.proofs.lemmas.Map.Made.{find_same}
use Rattle.std.specs.List.{dedup, dedup_from, filter, find}
use Rattle.std.specs.Option.{option_or}
use Rattle.std.specs.Prelude.{Decides}
use Rattle.std.specs.List.Sorted.{IsPermutation, ties}
use Rattle.std.specs.Ordering.{is_eq, ordering_reverse}
use Rattle.mp_views.proofs.SortedLemmas.{sorted_none, sorted_one_more}
use Rattle.mp_views.proofs.SortedLaws.{rises}

or_none : {K : Type 0} (p : Option K) → option_or p None ≡ p
or_none None = refl
or_none (Some x) = refl

module _ {K : Type 0} (R : K → K → Ordering) where
  -- the first item that ties with q
  abbrev pub first_tied : K → List K → Option K
  first_tied q xs = find (eq_by_cmp R q) xs

  none_below : (q : K) (ys : List K) → AllByRecursion (λ y. R q y ≡ Less) ys → first_tied q ys ≡ None
  none_below q [] h = refl
  none_below q (y ∷ ys) h = rw h.0 (none_below q ys h.1)

module _ {K : Type 0} {R : K → K → Ordering} (o : IsTotalOrder R) where
  after_less : (q x : K) (ys : List K) → R q x ≡ Less → AllByRecursion (λ y. R x y ≡ Less) ys → AllByRecursion (λ y. R q y ≡ Less) ys
  after_less q x [] less h = tt
  after_less q x (y ∷ ys) less h = (o.trans q x y less h.0, after_less q x ys less h.1)

  after_tied : (q x : K) (ys : List K) → R q x ≡ Equal → AllByRecursion (λ y. R x y ≡ Less) ys → AllByRecursion (λ y. R q y ≡ Less) ys
  after_tied q x [] tied h = tt
  after_tied q x (y ∷ ys) tied h = (o.congr q x y tied ∙ h.0, after_tied q x ys tied h.1)

  itself : (x : K) (xs : List K) → first_tied R x (x ∷ xs) ≡ Some x
  itself x xs = ap (λ (r : Ordering). cond (is_eq r) (Some x) (first_tied R x xs)) (tied_itself o x)

  is_tied : (x y : K) → eq_by_cmp R x y ≡ true → R x y ≡ Equal
  is_tied x y = by (R x y)
    where
      by : (r : Ordering) → is_eq r ≡ true → r ≡ Equal
      by Less e = absurd (false≢true e)
      by Equal e = refl
      by Greater e = absurd (false≢true e)

  same_later : (x y : K) (xs ys : List K) → x ≡ y → AllByRecursion (λ z. R x z ≡ Less) xs → AllByRecursion (λ z. R y z ≡ Less) ys
      → (q : K) → first_tied R q (x ∷ xs) ≡ first_tied R q (y ∷ ys) → first_tied R q xs ≡ first_tied R q ys
  same_later x y xs ys here up rising q same =
      elim (cases_Bool (eq_by_cmp R q x)) [
        | inl tied ↦
            let at_y : R q y ≡ Equal = ap (R q) (sym here) ∙ is_tied q x tied in
            none_below R q xs (after_tied q x xs (is_tied q x tied) up) ∙ sym (none_below R q ys (after_tied q y ys at_y rising))
        | inr other ↦
            let at_y : eq_by_cmp R q y ≡ false = ap (λ (z : K). is_eq (R q z)) (sym here) ∙ other in
            (rw (other, at_y) at same)
      ]

  -- lists that rise are one where they have the same first items
  pub same_list : (xs ys : List K) → IsStrictlySortedBy R xs → IsStrictlySortedBy R ys → ((q : K) → first_tied R q xs ≡ first_tied R q ys) → xs ≡ ys
  unfolding IsStrictlySortedBy
  same_list [] [] up rising same = refl
  same_list [] (y ∷ ys) up rising same = let e : None ≡ Some y = same y ∙ itself y ys in absurd (cc)
  same_list (x ∷ xs) [] up rising same = let e : Some x ≡ None = sym (itself x xs) ∙ same x in absurd (cc)
  same_list (x ∷ xs) (y ∷ ys) up rising same = by (R x y) refl (same_list xs ys up.1 rising.1)
    where
      by : (r : Ordering) → R x y ≡ r → (((q : K) → first_tied R q xs ≡ first_tied R q ys) → xs ≡ ys) → x ∷ xs ≡ y ∷ ys
      by Less less rest =
          let e : Some x ≡ None = sym (itself x xs) ∙ same x ∙ none_below R x (y ∷ ys) (less, after_less x y ys less rising.0) in
          absurd (cc)
      by Greater more rest =
          let less : R y x ≡ Less = o.antisymm y x ∙ ap ordering_reverse more in
          let e : None ≡ Some y = sym (none_below R y (x ∷ xs) (less, after_less y x xs less up.0)) ∙ same y ∙ itself y ys in
          absurd (cc)
      by Equal tied rest =
          let e : Some x ≡ Some y = sym (itself x xs) ∙ same x ∙ ap (λ (r : Ordering). cond (is_eq r) (Some y) (first_tied R x ys)) tied in
          let here : x ≡ y = cc in
          let others : xs ≡ ys = rest (λ q. same_later x y xs ys here up.0 rising.0 q (same q)) in
          cc

  tied_insert : (q : K) (ks : List K) (x : K) → IsStrictlySortedBy R ks → first_tied R q (insert_key R ks x) ≡ option_or (first_tied R q ks) (cond (eq_by_cmp R q x) (Some x) None)
  unfolding IsStrictlySortedBy
  tied_insert q [] x up = refl
  tied_insert q (y ∷ ks) x up = by (R x y) refl (tied_insert q ks x up.1)
    where
      by : (r : Ordering) → R x y ≡ r → first_tied R q (insert_key R ks x) ≡ option_or (first_tied R q ks) (cond (eq_by_cmp R q x) (Some x) None)
          → first_tied R q (match_ordering r (x ∷ y ∷ ks) (y ∷ ks) (y ∷ insert_key R ks x)) ≡ option_or (first_tied R q (y ∷ ks)) (cond (eq_by_cmp R q x) (Some x) None)
      by Less less later =
          elim (cases_Bool (eq_by_cmp R q x)) [
            | inl tied ↦
                let below : R q y ≡ Less = o.congr q x y (is_tied q x tied) ∙ less in
                rw (tied, none_below R q (y ∷ ks) (below, after_less q y ks below up.0))
            | inr other ↦ rw other (sym (or_none (first_tied R q (y ∷ ks))))
          ]
      by Equal same later =
          elim (cases_Bool (eq_by_cmp R q x)) [
            | inl tied ↦
                let at_y : R q y ≡ Equal = o.congr q x y (is_tied q x tied) ∙ same in
                rw at_y
            | inr other ↦ rw other (sym (or_none (first_tied R q (y ∷ ks))))
          ]
      by Greater more later =
          elim (cases_Bool (eq_by_cmp R q y)) [
            | inl tied ↦ rw tied
            | inr other ↦ rw other later
          ]

  -- sorting keeps the last item of those that tie
  pub tied_sorted : (xs : List K) (q : K) → first_tied R q (sorted_by R xs) ≡ first_tied R q (reverse xs)
  tied_sorted [] q = ap (first_tied R q) (sorted_none R)
  tied_sorted (x ∷ xs) q =
      ap (first_tied R q) (sorted_one_more o x xs) ∙ tied_insert q (sorted_by R xs) x (rises R xs)
      ∙ ap (λ (p : Option K). option_or p (first_tied R q (x ∷ []))) (tied_sorted xs q)
      ∙ sym (find-append (eq_by_cmp R q) (reverse xs) (x ∷ [])) ∙ ap (first_tied R q) (sym (reverse-append (x ∷ []) xs))

module _ {K : Type 0} {R : K → K → Ordering} (o : IsTotalOrder R) {E : K → K → Bool} (ties_are : (x y : K) → E x y ≡ eq_by_cmp R x y) where
  tied_from : (k : K) (xs : List K) (q : K) → first_tied R q (dedup_from E k xs) ≡ first_tied R q (k ∷ xs)
  tied_from k [] q = refl
  tied_from k (x ∷ xs) q =
      elim (cases_Bool (E x k)) [
        | inl same ↦
            let tied : eq_by_cmp R q x ≡ eq_by_cmp R q k = ap is_eq (alike_right o x k q (is_tied o x k (sym (ties_are x k) ∙ same))) in
            elim (cases_Bool (eq_by_cmp R q k)) [
              | inl here ↦ rw same (tied_from k xs q ∙ (rw here))
              | inr other ↦ let too : eq_by_cmp R q x ≡ false = tied ∙ other in rw same (tied_from k xs q ∙ (rw (other, too)))
            ]
        | inr differs ↦ rw differs (ap (λ (p : Option K). cond (eq_by_cmp R q k) (Some k) p) (tied_from x xs q))
      ]

  -- leaving out repetitions keeps the first item of those that tie
  pub tied_dedup : (xs : List K) (q : K) → first_tied R q (dedup E xs) ≡ first_tied R q xs
  tied_dedup [] q = refl
  tied_dedup (x ∷ xs) q = tied_from x xs q

  -- a list that is sorted and has of those that tie the last item of another list first is, without repetitions, the other one in order
  pub each_once : (xs ys : List K) → IsSorted R ys → ((q : K) → first_tied R q ys ≡ first_tied R q (reverse xs)) → dedup E ys ≡ sorted_by R xs
  each_once xs ys up same =
      same_list o (dedup E ys) (sorted_by R xs) (IsStrictlySortedBy-dedup o ties_are ys up) (rises R xs)
      (λ q. tied_dedup ys q ∙ same q ∙ sym (tied_sorted o xs q))

-- the first item of a list
abbrev first_item : {K : Type 0} → List K → Option K
first_item xs = find (λ x. true) xs

module _ {K : Type 0} {R : K → K → Ordering} (o : IsTotalOrder R) where
  tie_test : (q x : K) → ties (λ a b. is_lt (R a b)) q x ≡ eq_by_cmp R q x
  tie_test q x = ap (λ (r : Ordering). not (is_lt (R q x)) && not (is_lt r)) (o.antisymm x q) ∙ by (R q x)
    where
      by : (r : Ordering) → (not (is_lt r) && not (is_lt (ordering_reverse r))) ≡ is_eq r
      by Less = refl
      by Equal = refl
      by Greater = refl

  first_kept : (q : K) (xs : List K) → first_tied R q xs ≡ first_item (filter (ties (λ a b. is_lt (R a b)) q) xs)
  first_kept q [] = refl
  first_kept q (x ∷ xs) =
      elim (cases_Bool (eq_by_cmp R q x)) [
        | inl tied ↦ let kept = tie_test q x ∙ tied in rw (tied, kept)
        | inr other ↦ let left = tie_test q x ∙ other in rw (other, left) (first_kept q xs)
      ]

  -- a stable sort keeps the first item of those that tie
  pub tied_stable : (xs ys : List K) → IsStable R xs ys → (q : K) → first_tied R q ys ≡ first_tied R q xs
  tied_stable xs ys stable q = first_kept q ys ∙ ap first_item (stable q) ∙ sym (first_kept q xs)

-- where items that tie are one, any order of a list has the first items that the list has
pub tied_moved : {K : Type 0} (R : K → K → Ordering) → ((x y : K) → Decides (eq_by_cmp R x y) (x ≡ y)) → (xs ys : List K) → IsPermutation xs ys
    → (q : K) → first_tied R q ys ≡ first_tied R q (reverse xs)
tied_moved R same xs ys moved q =
    let p = eq_by_cmp R q in
    find_same same q ys
    ∙ ap (λ (b : Bool). cond b (Some q) None) (sym (list_any-IsPermutation p xs ys moved) ∙ list_any-IsPermutation p xs (reverse xs) (IsPermutation-reverse xs))
    ∙ sym (find_same same q (reverse xs))
