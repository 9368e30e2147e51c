-- The places of items that pass a test, and the items at some places.
use Rattle.std.proofs.Common.{arith, ◌≡◌, ℕ, zero, suc, ◌+◌, ◌<◌, Bool, true, false, cond, List, [], ◌∷◌, map, filter, length, get_or, Some, slice_get, refl, sym, ap, ◌∙◌, subst, inl, inr, ◌&&◌, ◌==◌}
use Rattle.std.proofs.lemmas.Bool.{eqb-true, eq-eqb}
use Rattle.std.specs.List.{list_any}
use Rattle.mp_list.proofs.Bools.{same_tests}
use Rattle.std.proofs.lemmas.Option.{none-some, same_Some, slice_get-get_or, get_or_from_slice_get}
use Rattle.std.specs.Prelude.{Contains}
use Rattle.mp_list.proofs.Members.{contains_head, contains_tail, contains_cases, no_member, any_from, some_member}
use Rattle.mp_typing.specs.Places.{numbers_where}

-- a place of an item that passes
pub record IsPlaceOf {X : Type 0} (from : ℕ) (test : X → Bool) (xs : List X) (n : ℕ) : Type 0 where
  pub index : ℕ
  pub item : X
  pub is : n ≡ from + index
  pub at : slice_get xs index ≡ Some item
  pub passes : test item ≡ true

later_place : {X : Type 0} (from : ℕ) (test : X → Bool) (x : X) (xs : List X) (n : ℕ) → IsPlaceOf (suc from) test xs n → IsPlaceOf from test (x ∷ xs) n
later_place from test x xs n h = record { index = suc h.index; item = h.item; is = omega (arith, h.is); at = h.at; passes = h.passes }

pub from_places : {X : Type 0} (from : ℕ) (test : X → Bool) (xs : List X) (n : ℕ) → Contains (numbers_where from test xs) n → IsPlaceOf from test xs n
unfolding numbers_where
from_places from test [] n found = absurd (no_member n found)
from_places {X} from test (x ∷ xs) n found = by (test x) refl found (from_places (suc from) test xs n)
  where
    by : (t : Bool) → test x ≡ t → Contains (cond t (from ∷ numbers_where (suc from) test xs) (numbers_where (suc from) test xs)) n
        → (Contains (numbers_where (suc from) test xs) n → IsPlaceOf (suc from) test xs n) → IsPlaceOf from test (x ∷ xs) n
    by true e found rest =
        elim (contains_cases from (numbers_where (suc from) test xs) n found) [
          | inl here ↦ record { index = 0; item = x; is = omega (arith, here); at = refl; passes = e }
          | inr there ↦ later_place from test x xs n (rest there)
        ]
    by false e found rest = later_place from test x xs n (rest found)

kept_place : (t : Bool) (from : ℕ) (rest : List ℕ) (n : ℕ) → Contains rest n → Contains (cond t (from ∷ rest) rest) n
kept_place true from rest n found = contains_tail from rest n found
kept_place false from rest n found = found

pub to_places : {X : Type 0} (from : ℕ) (test : X → Bool) (xs : List X) (k : ℕ) (x : X) → slice_get xs k ≡ Some x → test x ≡ true
    → Contains (numbers_where from test xs) (from + k)
unfolding numbers_where
to_places from test [] k x at ok = absurd (none-some x at)
to_places from test (y ∷ ys) zero x at ok =
    let is : y ≡ x = same_Some y x at in
    let here : from ≡ from + 0 = omega arith in
    let taken : test y ≡ true = ap test is ∙ ok in
    subst (λ ns. Contains ns (from + 0)) (ap (λ t. cond t (from ∷ numbers_where (suc from) test ys) (numbers_where (suc from) test ys)) (sym taken))
    (subst (Contains (from ∷ numbers_where (suc from) test ys)) here (contains_head from (numbers_where (suc from) test ys)))
to_places from test (y ∷ ys) (suc k) x at ok =
    let next : suc from + k ≡ from + suc k = omega arith in
    subst (Contains (cond (test y) (from ∷ numbers_where (suc from) test ys) (numbers_where (suc from) test ys))) next
    (kept_place (test y) from (numbers_where (suc from) test ys) (suc from + k) (to_places (suc from) test ys k x at ok))

-- the items at the places are those that pass
from_next : (k i : ℕ) → suc k + i ≡ k + suc i
from_next k i = omega arith

at_places : {X : Type 0} (g : ℕ → X) (from : ℕ) (test : X → Bool) (xs : List X)
    → ((i : ℕ) (d : X) → i < length xs → g (from + i) ≡ get_or xs i d) → map g (numbers_where from test xs) ≡ filter test xs
unfolding numbers_where
at_places g from test [] each = refl
at_places {X} g from test (x ∷ xs) each =
    by (test x) (at_places g (suc from) test xs (λ i d less. ap g (from_next from i) ∙ each (suc i) d (omega (arith, less))))
  where
    by : (t : Bool) → map g (numbers_where (suc from) test xs) ≡ filter test xs
        → map g (cond t (from ∷ numbers_where (suc from) test xs) (numbers_where (suc from) test xs)) ≡ cond t (x ∷ filter test xs) (filter test xs)
    by true rest =
        let first : g from ≡ x = ap g (let e : from ≡ from + 0 = omega arith in e) ∙ each 0 x (omega arith) in
        λ i. first i ∷ rest i
    by false rest = rest

same_default : {X : Type 0} (xs : List X) (i : ℕ) (c d : X) → i < length xs → get_or xs i c ≡ get_or xs i d
same_default xs i c d less = get_or_from_slice_get xs i (get_or xs i d) c (slice_get-get_or xs i d less)

pub items_at_places : {X : Type 0} (test : X → Bool) (xs : List X) (e : X) → map (λ n. get_or xs n e) (numbers_where 0 test xs) ≡ filter test xs
items_at_places test xs e =
    at_places (λ n. get_or xs n e) 0 test xs
    (λ i d less. ap (λ n. get_or xs n e) (let z : 0 + i ≡ i = omega arith in z) ∙ same_default xs i e d less)

pub from_start : (n : ℕ) → 0 + n ≡ n
from_start n = omega arith

-- a place is one of those where the item at it passes
pub place_listed : {X : Type 0} (test : X → Bool) (xs : List X) (i : ℕ) (x : X) → slice_get xs i ≡ Some x
    → list_any (λ m. m == (0 + i)) (numbers_where 0 test xs) ≡ test x
place_listed test xs i x at =
    let numbers = numbers_where 0 test xs in
    same_tests (list_any (λ m. m == (0 + i)) numbers) (test x)
    (λ h.
    let found = some_member (λ m. m == (0 + i)) numbers h in
    let p = from_places 0 test xs found.0 found.1 in
    let is : found.0 ≡ 0 + i = eqb-true found.0 (0 + i) found.2 in
    let same : i ≡ p.index = omega (arith, p.is, is) in
    ap test (same_Some x p.item (sym at ∙ ap (slice_get xs) same ∙ p.at)) ∙ p.passes)
    (λ h. any_from (λ m. m == (0 + i)) numbers (0 + i) (to_places 0 test xs i x at h) (eq-eqb (0 + i) (0 + i) refl))

-- the places that pass too are those of items that pass both
pub kept_places : {X : Type 0} (from : ℕ) (test both : X → Bool) (q : ℕ → Bool) (xs : List X)
    → ((i : ℕ) (x : X) → slice_get xs i ≡ Some x → both x ≡ (test x && q (from + i)))
    → filter q (numbers_where from test xs) ≡ numbers_where from both xs
unfolding numbers_where
kept_places from test both q [] each = refl
kept_places {X} from test both q (x ∷ xs) each =
    by (test x) (q from) (both x) refl refl
    (each 0 x refl ∙ ap (λ n. test x && q n) (let e : from + 0 ≡ from = omega arith in e))
    (kept_places (suc from) test both q xs (λ i y at. each (suc i) y at ∙ ap (λ n. test y && q n) (sym (from_next from i))))
  where
    by : (t s b : Bool) → test x ≡ t → q from ≡ s → b ≡ (test x && q from) → filter q (numbers_where (suc from) test xs) ≡ numbers_where (suc from) both xs
        → filter q (cond t (from ∷ numbers_where (suc from) test xs) (numbers_where (suc from) test xs))
        ≡ cond b (from ∷ numbers_where (suc from) both xs) (numbers_where (suc from) both xs)
    by true true b e f g rest =
        let taken : b ≡ true = g ∙ (λ i. e i && f i) in
        ap (λ s. cond s (from ∷ filter q (numbers_where (suc from) test xs)) (filter q (numbers_where (suc from) test xs))) f
        ∙ ap (λ ns. from ∷ ns) rest
        ∙ ap (λ c. cond c (from ∷ numbers_where (suc from) both xs) (numbers_where (suc from) both xs)) (sym taken)
    by true false b e f g rest =
        let left : b ≡ false = g ∙ (λ i. e i && f i) in
        ap (λ s. cond s (from ∷ filter q (numbers_where (suc from) test xs)) (filter q (numbers_where (suc from) test xs))) f
        ∙ rest
        ∙ ap (λ c. cond c (from ∷ numbers_where (suc from) both xs) (numbers_where (suc from) both xs)) (sym left)
    by false s b e f g rest =
        let left : b ≡ false = g ∙ (λ i. e i && q from) in
        rest ∙ ap (λ c. cond c (from ∷ numbers_where (suc from) both xs) (numbers_where (suc from) both xs)) (sym left)
