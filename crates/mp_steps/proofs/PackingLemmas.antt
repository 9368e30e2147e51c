-- The levels of a plan's actions are a packing.
use Rattle.std.proofs.Common.{◌≡◌, ℕ, zero, suc, ◌+◌, ◌<◌, ◌≤◌, Bool, true, false, cond, eqb, leb, List, [], ◌∷◌, ◌++◌, map, sym, subst, ◌∙◌, arith, inl, inr, Contains, IsPermutation}
use Rattle.std.specs.Prelude.{◌⊎◌}
use Rattle.std.specs.List.{range_with_len, flat_map, filter}
use Rattle.std.proofs.lemmas.Bool.{cases_eq, cases_lt, eq-eqb, ne_eqb, eqb-true, le-leb, lt-leb}
use Rattle.std.proofs.lemmas.List.Sorted.{IsPermutation-refl, IsPermutation-sym, IsPermutation-cons, IsPermutation-trans, IsPermutation-middle, IsPermutation-append_right}
use Rattle.mp_steps.specs.Levels.{Test, times, greatest, level_at}
use Rattle.mp_steps.specs.Steps.{step_of, steps}
use Rattle.mp_steps.specs.Packing.{IsPacking}
use Rattle.mp_steps.proofs.LevelLemmas.{AreLevels}
use Rattle.mp_steps.proofs.MemberLemmas.{in_range, range_has, in_filter, filter_has, filter_none, filter_whole, made_at}

-- ---- a list in two parts

-- x passes the first test alone, or the second one exactly where it passes the whole
abbrev IsInOne : {X : Type 0} (p q r : X → Bool) → X → Type 0
IsInOne p q r x = ((p x ≡ true) × (q x ≡ true) × (r x ≡ false)) ⊎ ((q x ≡ false) × (p x ≡ r x))

-- with one item in front of those that pass
abbrev Split : {X : Type 0} (x : X) (ps qs rs : List X) (a b c : Bool) → Type 0
Split x ps qs rs a b c = IsPermutation (cond a (x ∷ ps) ps) (cond b (x ∷ qs) qs ++ cond c (x ∷ rs) rs)

split_later : {X : Type 0} (x : X) (ps qs rs : List X) → IsPermutation ps (qs ++ rs) → (b : Bool) → Split x ps qs rs b false b
split_later x ps qs rs rest true =
    IsPermutation-trans (x ∷ ps) (x ∷ (qs ++ rs)) (qs ++ x ∷ rs)
    (IsPermutation-cons x ps (qs ++ rs) rest)
    (IsPermutation-sym (qs ++ x ∷ rs) (x ∷ (qs ++ rs)) (IsPermutation-middle qs x rs))
split_later x ps qs rs rest false = rest

split : {X : Type 0} (x : X) (ps qs rs : List X) → IsPermutation ps (qs ++ rs) → (p q r : X → Bool) → IsInOne p q r x → Split x ps qs rs (p x) (q x) (r x)
split x ps qs rs rest p q r (inl (a, b, c)) =
    subst (λ t. t) (λ i. Split x ps qs rs (sym a i) (sym b i) (sym c i)) (IsPermutation-cons x ps (qs ++ rs) rest)
split x ps qs rs rest p q r (inr (b, e)) =
    subst (λ t. t) (λ i. Split x ps qs rs (sym e i) (sym b i) (r x)) (split_later x ps qs rs rest (r x))

in_two : {X : Type 0} (p q r : X → Bool) → ((x : X) → IsInOne p q r x) → (xs : List X) → IsPermutation (filter p xs) (filter q xs ++ filter r xs)
in_two p q r which [] = IsPermutation-refl []
in_two p q r which (x ∷ xs) = split x (filter p xs) (filter q xs) (filter r xs) (in_two p q r which xs) p q r (which x)

-- ---- level by level

module _ (level : ℕ → ℕ) where
  abbrev of_level : List ℕ → ℕ → List ℕ
  of_level ts k = filter (λ t. eqb (level t) k) ts

  abbrev from : ℕ → List ℕ → List ℕ
  from a ts = filter (λ t. leb a (level t)) ts

  next_level : (a t : ℕ) → IsInOne (λ t. leb a (level t)) (λ t. eqb (level t) a) (λ t. leb (a + 1) (level t)) t
  next_level a t =
      elim (cases_eq (level t) a) [
        | inl same ↦ inl (le-leb a (level t) (omega (arith, same)), eq-eqb (level t) a same, lt-leb (a + 1) (level t) (omega (arith, same)))
        | inr other ↦ inr (
          ne_eqb (level t) a other,
          elim (cases_lt (level t) a) [
            | inl below ↦ lt-leb a (level t) below ∙ sym (lt-leb (a + 1) (level t) (omega (arith, below)))
            | inr above ↦ le-leb a (level t) above ∙ sym (le-leb (a + 1) (level t) (omega (arith, above, other)))
          ],
        )
      ]

  level_by_level : (ts : List ℕ) (a n : ℕ) → ((t : ℕ) → Contains ts t → level t < a + n)
      → IsPermutation (from a ts) (flat_map (λ s. s) (map (of_level ts) (range_with_len a n)))
  level_by_level ts a zero below =
      subst (λ xs. IsPermutation xs []) (sym (filter_none (λ t. leb a (level t)) ts (λ t c. let b = below t c in lt-leb a (level t) (omega (arith, b))))) (IsPermutation-refl [])
  level_by_level ts a (suc n) below =
      let later = flat_map (λ s. s) (map (of_level ts) (range_with_len (a + 1) n)) in
      IsPermutation-trans (from a ts) (of_level ts a ++ from (a + 1) ts) (of_level ts a ++ later)
      (in_two (λ t. leb a (level t)) (λ t. eqb (level t) a) (λ t. leb (a + 1) (level t)) (next_level a) ts)
      (IsPermutation-append_right (of_level ts a) (from (a + 1) ts) later
      (level_by_level ts (a + 1) n (λ t c. let b = below t c in omega (arith, b))))

-- ---- the greatest level

pub at_most_level : (ls : List ℕ) (t : ℕ) → level_at ls t ≤ greatest ls
at_most_level ls zero = omega arith
at_most_level [] (suc k) = omega arith
at_most_level (l ∷ ls) (suc zero) = omega arith
at_most_level (l ∷ ls) (suc (suc k)) = let r = at_most_level ls (suc k) in omega (arith, r)

module _ (interfere : Test) (n : ℕ) (ls : List ℕ) (are : AreLevels interfere n ls) where
  -- an action of a level
  pub record IsOfLevel (t level : ℕ) : Type 0 where
    pub first : 1 ≤ t
    pub within : t ≤ n
    pub is : level_at ls t ≡ level

  pub in_step : (k t : ℕ) → Contains (step_of ls n k) t → IsOfLevel t k
  in_step k t c =
      let f = in_filter (λ t. eqb (level_at ls t) k) (times n) t c in
      let r = in_range 1 n t f.0 in
      let low = r.0 in
      let high = r.1 in
      record { first = low; within = omega (arith, high); is = eqb-true (level_at ls t) k f.1 }

  pub step_has : (k t : ℕ) → IsOfLevel t k → Contains (step_of ls n k) t
  step_has k t h =
      let within = h.within in
      filter_has (λ t. eqb (level_at ls t) k) (times n) t (range_has 1 n t h.first (omega (arith, within))) (eq-eqb (level_at ls t) k h.is)

  once : IsPermutation (times n) (flat_map (λ s. s) (steps ls n))
  once =
      subst (λ xs. IsPermutation xs (flat_map (λ s. s) (steps ls n)))
      (filter_whole (λ t. leb 1 (level_at ls t)) (times n)
      (λ t c.
      let r = in_range 1 n t c in
      let high = r.1 in
      le-leb 1 (level_at ls t) (are.least t r.0 (omega (arith, high)))))
      (level_by_level (level_at ls) (times n) 1 (greatest ls) (λ t c. let b = at_most_level ls t in omega (arith, b)))

  pub are_packed : IsPacking interfere n (steps ls n)
  are_packed = record {
    once = once;
    in_order = λ k m s r t u at_k at_m in_s in_r before meets.
        let ks = made_at (step_of ls n) 1 (greatest ls) k s at_k in
        let ms = made_at (step_of ls n) 1 (greatest ls) m r at_m in
        let one = in_step (1 + k) t (subst (λ xs. Contains xs t) ks.1 in_s) in
        let other = in_step (1 + m) u (subst (λ xs. Contains xs u) ms.1 in_r) in
        let e = one.is in
        let f = other.is in
        let higher = are.rises t u one.first before other.within meets in
        omega (arith, e, f, higher);
  }
