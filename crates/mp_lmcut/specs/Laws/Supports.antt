-- A support is one of the preconditions, and has the greatest value of them.
use Rattle.std.proofs.Common.{◌≡◌, ℕ, Bool, true, false, cond, max, eqb, ◌||◌, Option, Some, None, List, [], ◌∷◌, All, refl, sym, ap, ◌∙◌, subst, ⊎_elim, arith}
use Rattle.std.proofs.lemmas.Bool.{false≢true, true≢false, ltb-true, ltb-false, eq-eqb, and_parts, or_cases, or_parts, or_left, or_right, not-true}
use Rattle.std.proofs.lemmas.List.Elements.{All-cons, All-nil}
use Rattle.std.specs.List.{list_any}
use Rattle.std.specs.Option.{option_to_list}
use Rattle.mp_list.specs.First.{leftmost}
use Rattle.mp_estimates.specs.Estimates.{AtMost, greater, Values}
use Rattle.mp_relaxed.specs.Values.{greatest}
use Rattle.mp_lmcut.specs.Cut.{is_above, supports_before, support}

above-AtMost : (a b : Option ℕ) → is_above a b ≡ true → AtMost b a
above-AtMost None None e = absurd (false≢true e)
above-AtMost None (Some n) e = tt
above-AtMost (Some m) None e = absurd (false≢true e)
above-AtMost (Some m) (Some n) e = let lt = ltb-true n m e in omega arith

not_above-AtMost : (a b : Option ℕ) → is_above a b ≡ false → AtMost a b
not_above-AtMost None None e = tt
not_above-AtMost None (Some n) e = absurd (true≢false e)
not_above-AtMost (Some m) None e = tt
not_above-AtMost (Some m) (Some n) e = ltb-false n m e

greater-absorb : (a b c : Option ℕ) → AtMost a b → greater a (greater b c) ≡ greater b c
greater-absorb None None c h = refl
greater-absorb None (Some n) c h = absurd h
greater-absorb (Some m) None c h = refl
greater-absorb (Some m) (Some n) None h = refl
greater-absorb (Some m) (Some n) (Some k) h = let e : max m (max n k) ≡ max n k = omega arith in ap Some e

greater-absorbed : (a b c : Option ℕ) → AtMost b a → greater a (greater b c) ≡ greater a c
greater-absorbed None b c h = refl
greater-absorbed (Some m) None c h = absurd h
greater-absorbed (Some m) (Some n) None h = refl
greater-absorbed (Some m) (Some n) (Some k) h = let e : max m (max n k) ≡ max m k = omega arith in ap Some e

greater-zero : (a : Option ℕ) → greater a (Some 0) ≡ a
greater-zero None = refl
greater-zero (Some m) = let e : max m 0 ≡ m = omega arith in ap Some e

module _ (v : Values) where
  before-AtMost : (y x : ℕ) → supports_before v y x ≡ true → AtMost (v x) (v y)
  before-AtMost y x e = ⊎_elim
      (λ h. above-AtMost (v y) (v x) h)
      (λ h. not_above-AtMost (v x) (v y) (not-true _ ((and_parts _ _ h).0)))
      (or_cases _ _ e)

  not_before-AtMost : (y x : ℕ) → supports_before v y x ≡ false → AtMost (v y) (v x)
  not_before-AtMost y x e = not_above-AtMost (v y) (v x) ((or_parts _ _ e).0)

  -- the first of a fact and others
  Best : ℕ → List ℕ → Type 0
  Best x xs =
      (z : ℕ)
      × (leftmost (supports_before v) (Some x) xs ≡ Some z)
      × (list_any (λ y. eqb y z) (x ∷ xs) ≡ true)
      × (v z ≡ greatest v (x ∷ xs))

  best : (x : ℕ) (xs : List ℕ) → Best x xs
  unfolding Best
  best x [] = (x, refl, or_left (eqb x x) false (eq-eqb x x refl), sym (greater-zero (v x)))
  best x (y ∷ ys) = by (supports_before v y x) refl (best y ys) (best x ys)
    where
      later : (z : ℕ) (a b : Bool) → (eqb x z || list_any (λ w. eqb w z) ys) ≡ true → (eqb x z || (eqb y z || list_any (λ w. eqb w z) ys)) ≡ true
      later z a b h = ⊎_elim
          (λ e. or_left (eqb x z) _ e)
          (λ e. or_right (eqb x z) _ (or_right (eqb y z) _ e))
          (or_cases (eqb x z) _ h)

      by : (b : Bool) → supports_before v y x ≡ b → Best y ys → Best x ys → (z : ℕ) × (leftmost (supports_before v) (Some (cond b y x)) ys ≡ Some z) × ((eqb x z || (eqb y z || list_any (λ w. eqb w z) ys)) ≡ true) × (v z ≡ greater (v x) (greater (v y) (greatest v ys)))
      by true e one two = (
        one.0,
        one.1,
        or_right (eqb x one.0) _ one.2,
        one.3 ∙ sym (greater-absorb (v x) (v y) (greatest v ys) (before-AtMost y x e)),
      )
      by false e one two = (
        two.0,
        two.1,
        later two.0 true true two.2,
        two.3 ∙ sym (greater-absorbed (v x) (v y) (greatest v ys) (not_before-AtMost y x e)),
      )

  -- what a support is
  pub data IsSupport (pre sup : List ℕ) : Type 0 where
    none : pre ≡ [] → sup ≡ [] → IsSupport pre sup
    one : (x : ℕ) → sup ≡ x ∷ [] → list_any (λ y. eqb y x) pre ≡ true → v x ≡ greatest v pre → IsSupport pre sup

  pub supported : (pre : List ℕ) → IsSupport pre (support v pre)
  unfolding support Best
  supported [] = none refl refl
  supported (x ∷ xs) =
      let b = best x xs in
      one b.0 (let e : leftmost (supports_before v) (Some x) xs ≡ Some b.0 = b.1 in ap option_to_list e) b.2 b.3

  pub support_value : (pre : List ℕ) → All (λ x. v x ≡ greatest v pre) (support v pre)
  support_value pre = by (supported pre)
    where
      by : IsSupport pre (support v pre) → All (λ x. v x ≡ greatest v pre) (support v pre)
      by (none e is) = subst (All (λ x. v x ≡ greatest v pre)) (sym is) (All-nil (λ x. v x ≡ greatest v pre))
      by (one x is member value) = subst (All (λ x. v x ≡ greatest v pre)) (sym is) (All-cons (λ x. v x ≡ greatest v pre) x [] value (All-nil (λ x. v x ≡ greatest v pre)))

  pub support_among : (pre : List ℕ) → All (λ x. list_any (λ y. eqb y x) pre ≡ true) (support v pre)
  support_among pre = by (supported pre)
    where
      by : IsSupport pre (support v pre) → All (λ x. list_any (λ y. eqb y x) pre ≡ true) (support v pre)
      by (none e is) = subst (All (λ x. list_any (λ y. eqb y x) pre ≡ true)) (sym is) (All-nil (λ x. list_any (λ y. eqb y x) pre ≡ true))
      by (one x is member value) = subst (All (λ x. list_any (λ y. eqb y x) pre ≡ true)) (sym is) (All-cons (λ x. list_any (λ y. eqb y x) pre ≡ true) x [] member (All-nil (λ x. list_any (λ y. eqb y x) pre ≡ true)))
