-- What follows from the definitions of `holds`, `after` and `listed`, for the crates above.
use Rattle.std.proofs.Common.{◌≡◌, ℕ, zero, suc, ◌<◌, Bool, true, false, cond, not, ◌&&◌, ◌||◌, eqb, List, [], ◌∷◌, length, get_or, All, refl, sym, ap, ◌∙◌, subst, arith}
use Rattle.std.proofs.lemmas.Bool.{false≢true, and_parts, and_from, eqb-true, eq-eqb, or_right}
use Rattle.std.proofs.lemmas.Bool.Decides.{nat_tests}
use Rattle.std.proofs.lemmas.List.Kept.{AllPairs-from_increasing}
use Rattle.std.specs.List.{AllPairs, filter, list_any}
use Rattle.std.specs.List.Sorted.{IsStrictlyIncreasing}
use Rattle.std.specs.Cmp.{nat_cmp_total}
use Rattle.std.specs.FinSet as set
use Rattle.mp_sets.specs.Numbers.{Numbers, SizedSet, holds, after, listed}
use Rattle.mp_sets.proofs.SetLemmas.{same_numbers}
use Rattle.mp_sets.proofs.ListedLemmas.{passing-IsStrictlyIncreasing}

-- what holds of all numbers of a list holds of each one that is in it
pub All_at : (P : ℕ → Type 0) (xs : List ℕ) (q : ℕ) → All P xs → list_any (λ y. eqb y q) xs ≡ true → P q
All_at P [] q all here = absurd (false≢true here)
All_at P (x ∷ xs) q all here =
    elim (eqb x q) as (λ b. eqb x q ≡ b → (b || list_any (λ y. eqb y q) xs) ≡ true → P q) [
      | true ↦ λ e _. subst P (eqb-true x q e) (all 0 x (omega arith))
      | false ↦ λ _ later. All_at P xs q (λ k d h. all (suc k) d (omega arith)) later
    ] refl here

-- each number of a list is in it
at_place : (x : ℕ) (xs : List ℕ) → All (λ z. list_any (λ y. eqb y z) xs ≡ true) xs → (k d : ℕ) → k < suc (length xs) → (eqb x (get_or (x ∷ xs) k d) || list_any (λ y. eqb y (get_or (x ∷ xs) k d)) xs) ≡ true
at_place x xs later zero d h = ap (λ b. b || list_any (λ y. eqb y x) xs) (eq-eqb x x refl)
at_place x xs later (suc k) d h = or_right (eqb x (get_or xs k d)) _ (later k d (omega arith))

pub among_itself : (xs : List ℕ) → All (λ x. list_any (λ y. eqb y x) xs ≡ true) xs
among_itself [] = λ k d h. absurd (omega arith)
among_itself (x ∷ xs) = at_place x xs (among_itself xs)

pub holds-member : (s : Numbers) (xs : List ℕ) (q : ℕ) → holds s xs ≡ true → list_any (λ y. eqb y q) xs ≡ true → set.contains s q ≡ true
holds-member s [] q all here = absurd (false≢true here)
holds-member s (x ∷ xs) q all here =
    let parts = and_parts (set.contains s x) (holds s xs) all in
    elim (eqb x q) as (λ b. eqb x q ≡ b → (b || list_any (λ y. eqb y q) xs) ≡ true → set.contains s q ≡ true) [
      | true ↦ λ e _. subst (λ y. set.contains s y ≡ true) (eqb-true x q e) parts.0
      | false ↦ λ _ later. holds-member s xs q parts.1 later
    ] refl here

pub holds_from_members : (s : Numbers) (xs : List ℕ) → ((q : ℕ) → list_any (λ y. eqb y q) xs ≡ true → set.contains s q ≡ true) → holds s xs ≡ true
holds_from_members s [] each = refl
holds_from_members s (x ∷ xs) each =
    and_from (set.contains s x) (holds s xs)
    (each x (ap (λ b. b || list_any (λ y. eqb y x) xs) (eq-eqb x x refl)))
    (holds_from_members s xs (λ q here. each q (or_right (eqb x q) _ here)))

-- the members after an action: what was there and is not deleted, and what is added
pub contains-after : (s : Numbers) (del add : List ℕ) (q : ℕ) → set.contains (after s del add) q ≡ ((set.contains s q && not (list_any (λ y. eqb y q) del)) || list_any (λ y. eqb y q) add)
contains-after s del add q =
    set.contains-union nat_cmp_total _ _ q
    ∙ (λ i. set.contains-difference nat_cmp_total s (set.from_list del) q i || set.contains-from_list_nat add q i)
    ∙ ap (λ b. (set.contains s q && not b) || list_any (λ y. eqb y q) add) (set.contains-from_list_nat del q)

pub after-none : (s : Numbers) → after s [] [] ≡ s
after-none s = same_numbers _ _ (λ q. contains-after s [] [] q ∙ as_it_was (set.contains s q))
  where
    as_it_was : (b : Bool) → ((b && true) || false) ≡ b
    as_it_was true = refl
    as_it_was false = refl

-- what of a list passes a test
pub list_any-filter : (f : ℕ → Bool) (x : ℕ) (xs : List ℕ) → list_any (λ y. eqb y x) (filter f xs) ≡ (list_any (λ y. eqb y x) xs && f x)
list_any-filter f x [] = refl
list_any-filter f x (y ∷ ys) =
    elim (f y) as (λ b. f y ≡ b → list_any (λ z. eqb z x) (cond b (y ∷ filter f ys) (filter f ys)) ≡ ((eqb y x || list_any (λ z. eqb z x) ys) && f x)) [
      | true ↦ λ e. ap (λ b. eqb y x || b) (list_any-filter f x ys) ∙ kept y x f (list_any (λ z. eqb z x) ys) e
      | false ↦ λ e. list_any-filter f x ys ∙ left_out y x f (list_any (λ z. eqb z x) ys) e
    ] refl
  where
    kept : (y x : ℕ) (f : ℕ → Bool) (b : Bool) → f y ≡ true → (eqb y x || (b && f x)) ≡ ((eqb y x || b) && f x)
    kept y x f b e = grind (arith, nat_tests)

    left_out : (y x : ℕ) (f : ℕ → Bool) (b : Bool) → f y ≡ false → (b && f x) ≡ ((eqb y x || b) && f x)
    left_out y x f b e = grind (arith, nat_tests)

-- deletes that are adds too may be left out
pub after-without_adds : (s : Numbers) (del add : List ℕ) → after s (filter (λ x. not (list_any (λ y. eqb y x) add)) del) add ≡ after s del add
after-without_adds s del add =
    same_numbers _ _ (λ x.
    contains-after s _ add x
    ∙ ap (λ b. (set.contains s x && not b) || list_any (λ y. eqb y x) add) (list_any-filter (λ z. not (list_any (λ y. eqb y z) add)) x del)
    ∙ without (set.contains s x) (list_any (λ y. eqb y x) del) (list_any (λ y. eqb y x) add)
    ∙ sym (contains-after s del add x))
  where
    without : (c d a : Bool) → ((c && not (d && not a)) || a) ≡ ((c && not d) || a)
    without true true true = refl
    without true true false = refl
    without true false a = refl
    without false d a = refl

pub union-empty : (s : Numbers) → set.union set.empty s ≡ s
union-empty s = same_numbers _ _ (λ q. set.contains-union nat_cmp_total set.empty s q ∙ ap (λ b. b || set.contains s q) (set.contains-empty _ q))

-- two lists that rise and have the same numbers are one
tail_pairs : (x : ℕ) (xs : List ℕ) → AllPairs (λ a b. a < b) (x ∷ xs) → AllPairs (λ a b. a < b) xs
tail_pairs x xs pairs = λ i j d lt h. pairs (suc i) (suc j) d (omega arith) (omega arith)

head_least : (x : ℕ) (xs : List ℕ) → AllPairs (λ a b. a < b) (x ∷ xs) → (q : ℕ) → list_any (λ y. eqb y q) xs ≡ true → x < q
head_least x xs pairs q here = All_at (λ y. x < y) xs q (λ k d h. pairs 0 (suc k) d (omega arith) (omega arith)) here

same_heads : (x y : ℕ) (c d : Bool) → (eqb y x || c) ≡ true → (eqb x y || d) ≡ true → (c ≡ true → y < x) → (d ≡ true → x < y) → x ≡ y
same_heads x y c d left right above below = grind (arith, nat_tests)

same_rest : (b c d : Bool) → (b ≡ true → c ≡ true → ⊥) → (b ≡ true → d ≡ true → ⊥) → (b || c) ≡ (b || d) → c ≡ d
same_rest true true d c_not d_not same = absurd (c_not refl refl)
same_rest true false true c_not d_not same = absurd (d_not refl refl)
same_rest true false false c_not d_not same = refl
same_rest false c d c_not d_not same = same

pairs_unique : (xs ys : List ℕ) → AllPairs (λ a b. a < b) xs → AllPairs (λ a b. a < b) ys → ((q : ℕ) → list_any (λ y. eqb y q) xs ≡ list_any (λ y. eqb y q) ys) → xs ≡ ys
pairs_unique [] [] p r same = refl
pairs_unique [] (y ∷ ys) p r same = absurd (false≢true (same y ∙ among_itself (y ∷ ys) 0 y (omega arith)))
pairs_unique (x ∷ xs) [] p r same = absurd (false≢true (sym (same x) ∙ among_itself (x ∷ xs) 0 x (omega arith)))
pairs_unique (x ∷ xs) (y ∷ ys) p r same =
    let heads = same_heads x y (list_any (λ z. eqb z x) ys) (list_any (λ z. eqb z y) xs) (sym (same x) ∙ among_itself (x ∷ xs) 0 x (omega arith)) (same y ∙ among_itself (y ∷ ys) 0 y (omega arith)) (head_least y ys r x) (head_least x xs p y) in
    let tails = pairs_unique xs ys (tail_pairs x xs p) (tail_pairs y ys r) (λ q.
    same_rest (eqb x q) _ _
    (λ e here. let is : x ≡ q = eqb-true x q e in let less = head_least x xs p q here in omega arith)
    (λ e here. let is : x ≡ q = eqb-true x q e in let less = head_least y ys r q here in omega arith)
    (same q ∙ ap (λ z. eqb z q || list_any (λ w. eqb w q) ys) (sym heads))) in
    λ i. heads i ∷ tails i

pub rising_unique : (xs ys : List ℕ) → IsStrictlyIncreasing xs → IsStrictlyIncreasing ys → ((q : ℕ) → list_any (λ y. eqb y q) xs ≡ list_any (λ y. eqb y q) ys) → xs ≡ ys
rising_unique xs ys p r same = pairs_unique xs ys (AllPairs-from_increasing xs p) (AllPairs-from_increasing ys r) same

pub listed-IsStrictlyIncreasing : (s : SizedSet) → IsStrictlyIncreasing (listed s)
listed-IsStrictlyIncreasing s = passing-IsStrictlyIncreasing _ s.size
