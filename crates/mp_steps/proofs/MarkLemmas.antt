-- The best of some marks, as actions are added.
use Rattle.std.proofs.Common.{◌≡◌, ◌⊎◌, ℕ, suc, ◌<◌, ◌≤◌, Bool, true, false, cond, ◌||◌, ◌&&◌, eqb, ltb, List, [], ◌∷◌, fold, refl, sym, ap, subst, ◌∙◌, arith, inl, inr}
use Rattle.std.specs.List.{list_any}
use Rattle.std.proofs.lemmas.Bool.{cases_eq, cases_lt, cases_order, false≢true, or_cases, eq-eqb, ne_eqb, eqb-true, lt-ltb, le-ltb}
use Rattle.mp_steps.specs.declared.mark.Mark.{Mark}
use Rattle.mp_steps.specs.Marks.{no_mark, better, IsBest}

-- ---- which of two is better

-- the second one is better, or it is not
abbrev IsSecond : Mark → Mark → Type 0
IsSecond a b = (a.level < b.level) ⊎ ((a.level ≡ b.level) × (b.time < a.time))

abbrev IsFirst : Mark → Mark → Type 0
IsFirst a b = (b.level < a.level) ⊎ ((a.level ≡ b.level) × (a.time ≤ b.time))

one_of_two : (a b : Mark) → IsSecond a b ⊎ IsFirst a b
one_of_two a b =
    elim (cases_order a.level b.level) [
      | inl same ↦ elim (cases_lt b.time a.time) [
        | inl earlier ↦ inl (inr (same, earlier))
        | inr later ↦ inr (inr (same, later))
      ]
      | inr other ↦ elim other [
        | inl less ↦ inl (inl less)
        | inr more ↦ inr (inl more)
      ]
    ]

second_is : (a b : Mark) → IsSecond a b → better a b ≡ b
second_is a b (inl less) = ap (λ t. cond (t || (eqb a.level b.level && ltb b.time a.time)) b a) (lt-ltb a.level b.level less)
second_is a b (inr (same, earlier)) =
    (λ i. cond (le-ltb a.level b.level (let e = same in omega (arith, e)) i || (eq-eqb a.level b.level same i && lt-ltb b.time a.time earlier i)) b a)

first_is : (a b : Mark) → IsFirst a b → better a b ≡ a
first_is a b (inl more) =
    (λ i. cond (le-ltb a.level b.level (let m = more in omega (arith, m)) i || (ne_eqb a.level b.level (λ e. let m = more in omega (arith, m, e)) i && ltb b.time a.time)) b a)
first_is a b (inr (same, later)) =
    (λ i. cond (le-ltb a.level b.level (let e = same in omega (arith, e)) i || (eq-eqb a.level b.level same i && le-ltb b.time a.time later i)) b a)

-- a mark that is put in twice is put in once
twice : (a b : Mark) → better (better a b) b ≡ better a b
twice a b =
    elim (one_of_two a b) [
      | inl second ↦ ap (λ m. better m b) (second_is a b second) ∙ first_is b b (inr (refl, omega arith)) ∙ sym (second_is a b second)
      | inr first ↦ ap (λ m. better m b) (first_is a b first)
    ]

pub twice_better : (a b : Mark) → better (better a b) b ≡ better a b
twice_better = twice

-- ---- the best of some actions

module _ (level : ℕ → ℕ) where
  pub best_of_none : (passes : ℕ → Bool) → IsBest level 0 passes no_mark
  best_of_none passes = record { above = λ t first within. absurd (omega (arith, first, within)); there = inl refl }

  pub best_same : (n : ℕ) (p q : ℕ → Bool) (b : Mark) → ((t : ℕ) → 1 ≤ t → t ≤ n → p t ≡ q t) → IsBest level n p b → IsBest level n q b
  best_same n p q b same h = record {
    above = λ t first within is. h.above t first within (same t first within ∙ is);
    there = elim h.there [
      | inl none ↦ inl none
      | inr some ↦ inr (some.0, some.1, sym (same b.time some.0 some.1) ∙ some.2, some.3)
    ];
  }

  -- none passes
  pub best_of_nothing : (n : ℕ) → IsBest level n (λ t. false) no_mark
  best_of_nothing n = record { above = λ t first within is. absurd (false≢true is); there = inl refl }

  or_left : (a b : Bool) → a ≡ true → (a || b) ≡ true
  or_left a b h = ap (λ x. x || b) h

  or_right : (a b : Bool) → b ≡ true → (a || b) ≡ true
  or_right true b h = refl
  or_right false b h = h

  pub best_merge : (n : ℕ) (p q : ℕ → Bool) (a b : Mark) → IsBest level n p a → IsBest level n q b → IsBest level n (λ t. p t || q t) (better a b)
  best_merge n p q a b h k =
      elim (one_of_two a b) [
        | inl second ↦ subst (IsBest level n (λ t. p t || q t)) (sym (second_is a b second)) (by_second second)
        | inr first ↦ subst (IsBest level n (λ t. p t || q t)) (sym (first_is a b first)) (by_first first)
      ]
    where
      lower_first : IsSecond a b → (t : ℕ) → (level t ≤ a.level) × (level t ≡ a.level → a.time ≤ t) → (level t ≤ b.level) × (level t ≡ b.level → b.time ≤ t)
      lower_first (inl less) t (most, least) = (omega (arith, less, most), λ e. absurd (omega (arith, less, most, e)))
      lower_first (inr (same, earlier)) t (most, least) = (omega (arith, same, most), λ e. let l = least (e ∙ sym same) in omega (arith, l, earlier))

      lower_second : IsFirst a b → (t : ℕ) → (level t ≤ b.level) × (level t ≡ b.level → b.time ≤ t) → (level t ≤ a.level) × (level t ≡ a.level → a.time ≤ t)
      lower_second (inl more) t (most, least) = (omega (arith, more, most), λ e. absurd (omega (arith, more, most, e)))
      lower_second (inr (same, later)) t (most, least) = (omega (arith, same, most), λ e. let l = least (e ∙ same) in omega (arith, l, later))

      by_second : IsSecond a b → IsBest level n (λ t. p t || q t) b
      by_second second = record {
        above = λ t first within is. elim (or_cases (p t) (q t) is) [
          | inl one ↦ lower_first second t (h.above t first within one)
          | inr other ↦ k.above t first within other
        ];
        there = elim k.there [
          | inl none ↦ inl none
          | inr some ↦ inr (some.0, some.1, or_right (p b.time) (q b.time) some.2, some.3)
        ];
      }

      by_first : IsFirst a b → IsBest level n (λ t. p t || q t) a
      by_first second = record {
        above = λ t first within is. elim (or_cases (p t) (q t) is) [
          | inl one ↦ h.above t first within one
          | inr other ↦ lower_second second t (k.above t first within other)
        ];
        there = elim h.there [
          | inl none ↦ inl none
          | inr some ↦ inr (some.0, some.1, or_left (p a.time) (q a.time) some.2, some.3)
        ];
      }

  -- the best over a list of facts, each with its own
  pub best_over : {X : Type 0} (n : ℕ) (passes : X → ℕ → Bool) (mark : X → Mark) → ((x : X) → IsBest level n (passes x) (mark x))
      → (q : ℕ → Bool) (b : Mark) (xs : List X) → IsBest level n q b
      → IsBest level n (λ t. q t || list_any (λ x. passes x t) xs) (fold (λ m x. better m (mark x)) b xs)
  best_over n passes mark each q b [] h = best_same n q (λ t. q t || false) b (λ t first within. plain (q t)) h
    where
      plain : (a : Bool) → a ≡ (a || false)
      plain true = refl
      plain false = refl
  best_over n passes mark each q b (x ∷ xs) h =
      best_same n (λ t. (q t || passes x t) || list_any (λ y. passes y t) xs) (λ t. q t || (passes x t || list_any (λ y. passes y t) xs)) _
      (λ t first within. grouped (q t) (passes x t) (list_any (λ y. passes y t) xs))
      (best_over n passes mark each (λ t. q t || passes x t) (better b (mark x)) xs (best_merge n q (passes x) b (mark x) h (each x)))
    where
      grouped : (a b c : Bool) → ((a || b) || c) ≡ (a || (b || c))
      grouped true b c = refl
      grouped false b c = refl

-- one action more, of a level of its own
module _ (level more : ℕ → ℕ) (n : ℕ) (kept : (t : ℕ) → t ≤ n → more t ≡ level t) where
  pub best_without : (p : ℕ → Bool) (b : Mark) → p (suc n) ≡ false → IsBest level n p b → IsBest more (suc n) p b
  best_without p b not h = record {
    above = λ t first within is. elim (cases_eq t (suc n)) [
      | inl same ↦ absurd (false≢true (sym not ∙ ap p (sym same) ∙ is))
      | inr other ↦
          let inside : t ≤ n = omega (arith, within, other) in
          let r = h.above t first inside is in
          let e = kept t inside in
          let low = r.0 in
          (omega (arith, e, low), λ f. r.1 (sym e ∙ f))
    ];
    there = elim h.there [
      | inl none ↦ inl none
      | inr some ↦ let high = some.1 in inr (some.0, omega (arith, high), some.2, kept b.time high ∙ some.3)
    ];
  }

  best_alone : (l : ℕ) → more (suc n) ≡ l → IsBest more (suc n) (λ t. eqb t (suc n)) (record { level = l; time = suc n })
  best_alone l is = record {
    above = λ t first within same.
        let e = eqb-true t (suc n) same in
        let at = ap more e ∙ is in
        (omega (arith, at), λ _. omega (arith, e));
    there = inr (omega arith, omega arith, eq-eqb (suc n) (suc n) refl, is);
  }

  pub best_with : (p : ℕ → Bool) (b : Mark) (l : ℕ) → more (suc n) ≡ l → p (suc n) ≡ true → IsBest level n p b
      → IsBest more (suc n) p (better b (record { level = l; time = suc n }))
  best_with p b l is passes h =
      best_same more (suc n) (λ t. (p t && ltb t (suc n)) || eqb t (suc n)) p _
      (λ t first within. both t within)
      (best_merge more (suc n) (λ t. p t && ltb t (suc n)) (λ t. eqb t (suc n)) b (record { level = l; time = suc n })
      (best_without (λ t. p t && ltb t (suc n)) b (shut (p (suc n)) (ltb (suc n) (suc n)) (le-ltb (suc n) (suc n) (omega arith)))
      (best_same level n p (λ t. p t && ltb t (suc n)) b (λ t first within. open_to (p t) (ltb t (suc n)) (lt-ltb t (suc n) (omega (arith, within)))) h))
      (best_alone l is))
    where
      shut : (a b : Bool) → b ≡ false → (a && b) ≡ false
      shut true b e = e
      shut false b e = refl

      open_to : (a b : Bool) → b ≡ true → a ≡ (a && b)
      open_to true b e = sym e
      open_to false b e = refl

      both : (t : ℕ) → t ≤ suc n → ((p t && ltb t (suc n)) || eqb t (suc n)) ≡ p t
      both t within =
          elim (cases_eq t (suc n)) [
            | inl same ↦ last (p t && ltb t (suc n)) (eqb t (suc n)) (p t) (eq-eqb t (suc n) same) (ap p same ∙ passes)
            | inr other ↦ early (p t) (ltb t (suc n)) (eqb t (suc n)) (lt-ltb t (suc n) (omega (arith, within, other))) (ne_eqb t (suc n) other)
          ]
        where
          last : (a e q : Bool) → e ≡ true → q ≡ true → (a || e) ≡ q
          last true e q h k = sym k
          last false e q h k = h ∙ sym k

          early : (q b e : Bool) → b ≡ true → e ≡ false → ((q && b) || e) ≡ q
          early true b e h k = ap (λ x. x || e) h
          early false b e h k = k
