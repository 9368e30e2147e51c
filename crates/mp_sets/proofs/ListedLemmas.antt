-- The members of a set as the list of them that rises.
use Rattle.std.proofs.Common.{◌≡◌, ℕ, zero, suc, ◌+◌, ◌-◌, ◌<◌, ◌≤◌, Bool, true, false, cond, ◌&&◌, ◌||◌, ltb, eqb, List, [], ◌∷◌, ◌++◌, length, All, refl, sym, ap, ◌∙◌, subst, inl, inr, arith}
use Rattle.std.specs.List.{filter, list_any, range_with_len}
use Rattle.std.specs.List.Sorted.{IsStrictlyIncreasing}
use Rattle.std.proofs.lemmas.List.{map-id, append-nil}
use Rattle.std.proofs.lemmas.List.FromFn.{filter_of_map_range_with_len_more, get_or-range_with_len, length-range_with_len}
use Rattle.std.proofs.lemmas.List.Elements.{All-push}
use Rattle.std.proofs.lemmas.List.Kept.{IsStrictlyIncreasing-filter}
use Rattle.std.proofs.lemmas.List.Folds.{list_any-append}
use Rattle.std.proofs.lemmas.Bool.{cases_lt}
use Rattle.std.proofs.lemmas.Bool.Decides.{nat_tests}
use Rattle.std.specs.FinSet as set
use Rattle.mp_sets.specs.Numbers.{Numbers, SizedSet, AllBelow, IsAboveLast, IsLeastFrom, HasNoneFrom, members_before, listed}
use Rattle.mp_sets.proofs.SetLemmas.{same_numbers, none_below}

-- the numbers below n that pass
abbrev passing : (ℕ → Bool) → ℕ → List ℕ
passing p n = filter p (range_with_len 0 n)

pub passing_more : (p : ℕ → Bool) (n : ℕ) → filter p (range_with_len 0 (n + 1)) ≡ filter p (range_with_len 0 n) ++ cond (p n) (n ∷ []) []
passing_more p n =
    ap (filter p) (sym (map-id (range_with_len 0 (n + 1))))
    ∙ filter_of_map_range_with_len_more p (λ k. k) 0 n n (omega arith)
    ∙ ap (λ xs. filter p xs ++ cond (p n) (n ∷ []) []) (map-id (range_with_len 0 n))

pub passing_push : (p : ℕ → Bool) (n : ℕ) → p n ≡ true → filter p (range_with_len 0 (n + 1)) ≡ filter p (range_with_len 0 n) ++ n ∷ []
passing_push p n e = passing_more p n ∙ ap (λ b. filter p (range_with_len 0 n) ++ cond b (n ∷ []) []) e

passing_next : (p : ℕ → Bool) (n : ℕ) → filter p (range_with_len 0 (suc n)) ≡ filter p (range_with_len 0 n) ++ cond (p n) (n ∷ []) []
passing_next p n =
    let e : suc n ≡ n + 1 = omega arith in
    ap (λ m. filter p (range_with_len 0 m)) e ∙ passing_more p n

pub passing_below : (p : ℕ → Bool) (n : ℕ) → All (λ y. y < n) (filter p (range_with_len 0 n))
passing_below p zero = λ k d h. absurd (omega arith)
passing_below p (suc n) =
    let xs = filter p (range_with_len 0 n) in
    let wider : All (λ y. y < suc n) xs = λ k d h. omega (arith, passing_below p n k d h) in
    let P : List ℕ → Type 0 = λ ys. All (λ y. y < suc n) ys in
    subst P (sym (passing_next p n)) (elim (p n) as (λ b. All (λ y. y < suc n) (xs ++ cond b (n ∷ []) [])) [
      | true ↦ All-push (λ y. y < suc n) xs n wider (omega arith)
      | false ↦ subst P (sym (append-nil xs)) wider
    ])

pub members_before-above : (s : Numbers) (n x : ℕ) → n ≤ x → IsAboveLast (members_before s n) x
members_before-above s n x le some = omega (arith, passing_below (set.contains s) n (length (members_before s n) - 1) 0 (omega arith))

pub passing-IsStrictlyIncreasing : (p : ℕ → Bool) (n : ℕ) → IsStrictlyIncreasing (filter p (range_with_len 0 n))
passing-IsStrictlyIncreasing p n =
    IsStrictlyIncreasing-filter p _ (λ k h.
    let long = length-range_with_len 0 n in
    let here = get_or-range_with_len 0 n k 0 (omega arith) in
    let later = get_or-range_with_len 0 n (k + 1) 0 (omega arith) in
    omega arith)

one_more : (q n : ℕ) (p : ℕ → Bool) (b : Bool) → p n ≡ b → ((ltb q n && p q) || list_any (λ y. eqb y q) (cond b (n ∷ []) [])) ≡ (ltb q (n + 1) && p q)
one_more q n p true e = passes q n p e
  where
    passes : (q n : ℕ) (p : ℕ → Bool) → p n ≡ true → ((ltb q n && p q) || (eqb n q || false)) ≡ (ltb q (n + 1) && p q)
    passes q n p e = grind (arith, nat_tests)
one_more q n p false e = fails q n p e
  where
    fails : (q n : ℕ) (p : ℕ → Bool) → p n ≡ false → ((ltb q n && p q) || false) ≡ (ltb q (n + 1) && p q)
    fails q n p e = grind (arith, nat_tests)

pub list_any-passing : (p : ℕ → Bool) (n q : ℕ) → list_any (λ y. eqb y q) (filter p (range_with_len 0 n)) ≡ (ltb q n && p q)
list_any-passing p zero q = none_below q p
list_any-passing p (suc n) q =
    let e : n + 1 ≡ suc n = omega arith in
    ap (list_any (λ y. eqb y q)) (passing_next p n)
    ∙ list_any-append (λ y. eqb y q) (filter p (range_with_len 0 n)) _
    ∙ ap (λ b. b || list_any (λ y. eqb y q) (cond (p n) (n ∷ []) [])) (list_any-passing p n q)
    ∙ one_more q n p (p n) refl
    ∙ ap (λ m. ltb q m && p q) e

-- the list grows at the least member from its end on
passing_skipped : (p : ℕ → Bool) (m n : ℕ) → m ≤ n → ((y : ℕ) → m ≤ y → y < n → p y ≡ false) → filter p (range_with_len 0 n) ≡ filter p (range_with_len 0 m)
passing_skipped p m zero le none = let e : zero ≡ m = omega arith in ap (λ k. filter p (range_with_len 0 k)) e
passing_skipped p m (suc n) le none =
    elim (cases_lt n m) [
      | inl past ↦ let e : suc n ≡ m = omega arith in ap (λ k. filter p (range_with_len 0 k)) e
      | inr more ↦
          passing_next p n
          ∙ ap (λ b. filter p (range_with_len 0 n) ++ cond b (n ∷ []) []) (none n more (omega arith))
          ∙ append-nil _
          ∙ passing_skipped p m n more (λ y h lt. none y h (omega arith))
    ]

pub members_before-next : (s : Numbers) (from x : ℕ) → IsLeastFrom s from x → members_before s (x + 1) ≡ members_before s from ++ x ∷ []
members_before-next s from x is =
    passing_push (set.contains s) x is.member ∙ ap (λ xs. xs ++ x ∷ []) (passing_skipped (set.contains s) from x is.above is.least)

pub members_before-last : (s : Numbers) (from n : ℕ) → HasNoneFrom s from → from ≤ n → members_before s n ≡ members_before s from
members_before-last s from n none le = passing_skipped (set.contains s) from n le (λ y h _. none y h)

-- the set of the list of a set's members is the set
pub from_list-listed : (s : SizedSet) → AllBelow s.size s.members → set.from_list (listed s) ≡ s.members
from_list-listed s below =
    same_numbers _ _ (λ q. set.contains-from_list_nat (listed s) q ∙ list_any-passing (set.contains s.members) s.size q ∙ within q s.size (set.contains s.members q) (below q))
  where
    within : (q n : ℕ) (b : Bool) → (b ≡ true → q < n) → (ltb q n && b) ≡ b
    within q n b h = grind (arith, nat_tests)
