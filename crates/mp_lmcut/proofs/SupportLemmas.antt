-- Supports by the numbers of facts.
use Rattle.std.proofs.Common.{◌≡◌, ℕ, ◌≤◌, Bool, true, false, not, ltb, leb, ◌&&◌, ◌||◌, Option, Some, None, List, [], ◌∷◌, refl, sym, ap, ◌∙◌, ⊎_elim, arith}
use Rattle.std.proofs.lemmas.Bool.{cases_lt, lt-ltb, le-ltb, le-leb, lt-leb}
use Rattle.std.specs.Option.{is_some}
use Rattle.mp_estimates.specs.Estimates.{Values, greater}
use Rattle.mp_estimates.specs.Lowering.{known, number_at, unknown, value_at}
use Rattle.mp_estimates.proofs.LoweringLemmas.{known-none, known-some}
use Rattle.mp_relaxed.specs.Values.{greatest}
use Rattle.mp_lmcut.specs.Cut.{all_valued, is_above, support, supports_before}
use Rattle.mp_lmcut.specs.Laws.Supports.{IsSupport, supported}
use Rattle.mp_lmcut.specs.Laws.Supports.IsSupport.{none, one}

above_is : (m n : ℕ) → m ≤ unknown → n ≤ unknown → is_above (known m) (known n) ≡ ltb n m
above_is m n first second = ⊎_elim
    (λ h. ⊎_elim
    (λ k. λ i. is_above (known-some m h i) (known-some n k i))
    (λ k. (λ i. is_above (known-some m h i) (known-none n k i)) ∙ sym (le-ltb n m (omega arith)))
    (cases_lt n unknown))
    (λ h. ⊎_elim
    (λ k. (λ i. is_above (known-none m h i) (known-some n k i)) ∙ sym (lt-ltb n m (omega arith)))
    (λ k. (λ i. is_above (known-none m h i) (known-none n k i)) ∙ sym (le-ltb n m (omega arith)))
    (cases_lt n unknown))
    (cases_lt m unknown)

not_less : (m n : ℕ) → not (ltb m n) ≡ leb n m
not_less m n = ⊎_elim
    (λ h. ap not (lt-ltb m n h) ∙ sym (lt-leb n m h))
    (λ h. ap not (le-ltb m n h) ∙ sym (le-leb n m h))
    (cases_lt m n)

-- what the code asks of two numbers
pub before_is : (numbers : List ℕ) (x y : ℕ) → number_at numbers x ≤ unknown → number_at numbers y ≤ unknown → (ltb (number_at numbers y) (number_at numbers x) || (leb (number_at numbers y) (number_at numbers x) && ltb x y)) ≡ supports_before (value_at numbers) x y
before_is numbers x y first second =
    let m = number_at numbers x in
    let n = number_at numbers y in
    sym ((λ i. above_is m n first second i || (not (above_is n m second first i) && ltb x y))
    ∙ ap (λ b. ltb n m || (b && ltb x y)) (not_less m n))

is_some_greater : (a b : Option ℕ) → is_some (greater a b) ≡ (is_some a && is_some b)
is_some_greater None b = refl
is_some_greater (Some m) None = refl
is_some_greater (Some m) (Some n) = refl

greatest_valued : (v : Values) (xs : List ℕ) → is_some (greatest v xs) ≡ all_valued v xs
greatest_valued v [] = refl
greatest_valued v (x ∷ xs) = is_some_greater (v x) (greatest v xs) ∙ ap (λ b. is_some (v x) && b) (greatest_valued v xs)

and_true : (b : Bool) → (b && true) ≡ b
and_true true = refl
and_true false = refl

-- all preconditions have values where their support does, which has the greatest one
pub support_valued : (v : Values) (pre : List ℕ) → all_valued v (support v pre) ≡ all_valued v pre
support_valued v pre = by (supported v pre)
  where
    by : IsSupport v pre (support v pre) → all_valued v (support v pre) ≡ all_valued v pre
    by (none e is) = ap (all_valued v) (is ∙ sym e)
    by (one x is member value) = ap (all_valued v) is ∙ and_true (is_some (v x)) ∙ ap is_some value ∙ greatest_valued v pre

-- what the code asks of a support
pub known_one : (numbers : List ℕ) (x : ℕ) → ltb (number_at numbers x) unknown ≡ all_valued (value_at numbers) (x ∷ [])
known_one numbers x = ⊎_elim
    (λ h. lt-ltb (number_at numbers x) unknown h ∙ sym (ap (λ a. is_some a && true) (known-some (number_at numbers x) h)))
    (λ h. le-ltb (number_at numbers x) unknown h ∙ sym (ap (λ a. is_some a && true) (known-none (number_at numbers x) h)))
    (cases_lt (number_at numbers x) unknown)
