-- Levels rise where actions interfere, and each level but the first follows from the one below it.
use Rattle.std.proofs.Common.{◌≡◌, ℕ, zero, suc, ◌+◌, ◌<◌, ◌≤◌, max, Bool, true, false, cond, List, [], ◌∷◌, ◌++◌, map, length, refl, sym, ap, subst, ◌∙◌, arith, inl, inr}
use Rattle.std.specs.Prelude.{◌⊎◌, if◌then◌else◌}
use Rattle.std.specs.List.{range_with_len}
use Rattle.std.proofs.lemmas.Bool.{cases_eq}
use Rattle.std.proofs.lemmas.List.{get_or_append_left, get_or_push, length_push}
use Rattle.mp_steps.specs.Levels.{Test, times, greatest, level_at, levels}

-- ---- the greatest of some numbers

max_left : (a b : ℕ) → a ≤ max a b
max_left a b = omega arith

max_right : (a b : ℕ) → b ≤ max a b
max_right a b = omega arith

max_either : (a b : ℕ) → (max a b ≡ a) ⊎ (max a b ≡ b)
max_either a b = elim (cases_eq (max a b) a) [
  | inl first ↦ inl first
  | inr other ↦ inr (omega (arith, other))
]

-- over a function of numbers from a on
pub at_most_greatest : (f : ℕ → ℕ) (a n t : ℕ) → a ≤ t → t < a + n → f t ≤ greatest (map f (range_with_len a n))
at_most_greatest f a zero t low high = absurd (omega (arith, low, high))
at_most_greatest f a (suc n) t low high =
    elim (cases_eq t a) [
      | inl same ↦ subst (λ x. f x ≤ greatest (map f (range_with_len a (suc n)))) (sym same) (max_left (f a) (greatest (map f (range_with_len (a + 1) n))))
      | inr other ↦
          let rest = at_most_greatest f (a + 1) n t (omega (arith, low, other)) (omega (arith, high)) in
          let right = max_right (f a) (greatest (map f (range_with_len (a + 1) n))) in
          omega (arith, rest, right)
    ]

pub record HasValue (f : ℕ → ℕ) (a n value : ℕ) : Type 0 where
  pub at : ℕ
  pub low : a ≤ at
  pub high : at < a + n
  pub is : f at ≡ value

pub greatest_is : (f : ℕ → ℕ) (a n m : ℕ) → greatest (map f (range_with_len a n)) ≡ suc m → HasValue f a n (suc m)
greatest_is f a zero m e = absurd (omega (arith, e))
greatest_is f a (suc n) m e =
    elim (max_either (f a) (greatest (map f (range_with_len (a + 1) n)))) [
      | inl first ↦ record { at = a; low = omega arith; high = omega arith; is = sym first ∙ e }
      | inr later ↦
          let r = greatest_is f (a + 1) n m (sym later ∙ e) in
          let low = r.low in
          let high = r.high in
          record { at = r.at; low = omega (arith, low); high = omega (arith, high); is = r.is }
    ]

-- ---- one level more

pub level_kept : (ls : List ℕ) (x t : ℕ) → t ≤ length ls → level_at (ls ++ x ∷ []) t ≡ level_at ls t
level_kept ls x zero low = refl
level_kept ls x (suc k) low = get_or_append_left ls (x ∷ []) 0 k (omega (arith, low))

pub level_new : (ls : List ℕ) (x n : ℕ) → length ls ≡ n → level_at (ls ++ x ∷ []) (suc n) ≡ x
level_new ls x n long = get_or_push ls x 0 n long

-- an earlier time whose action interferes, with its level
pub record Follows (interfere : Test) (ls : List ℕ) (u level : ℕ) : Type 0 where
  pub time : ℕ
  pub first : 1 ≤ time
  pub earlier : time < u
  pub interferes : interfere time u ≡ true
  pub has : level_at ls time ≡ level

pub record AreLevels (interfere : Test) (n : ℕ) (ls : List ℕ) : Type 0 where
  pub long : length ls ≡ n
  pub least : (t : ℕ) → 1 ≤ t → t ≤ n → 1 ≤ level_at ls t
  pub rises : (t u : ℕ) → 1 ≤ t → t < u → u ≤ n → interfere t u ≡ true → level_at ls t < level_at ls u
  pub follows : (u k : ℕ) → 1 ≤ u → u ≤ n → level_at ls u ≡ suc (suc k) → Follows interfere ls u (suc k)

module _ (interfere : Test) where
  -- the level of an earlier action, where it interferes with that of a time
  abbrev pub met : List ℕ → ℕ → ℕ → ℕ
  met ls u t = if interfere t u then level_at ls t else 0

  met_level : (ls : List ℕ) (u t : ℕ) → interfere t u ≡ true → met ls u t ≡ level_at ls t
  met_level ls u t e = ap (λ b. cond b (level_at ls t) 0) e

  met_there : (b : Bool) (level m : ℕ) → cond b level 0 ≡ suc m → (b ≡ true) × (level ≡ suc m)
  met_there true level m e = (refl, e)
  met_there false level m e = absurd (omega (arith, e))

  abbrev next : List ℕ → ℕ → ℕ
  next ls n = greatest (map (met ls (suc n)) (times n)) + 1

  one_more : (n : ℕ) (ls : List ℕ) → AreLevels interfere n ls → AreLevels interfere (suc n) (ls ++ next ls n ∷ [])
  one_more n ls a = record { long = long; least = least; rises = rises; follows = follows }
    where
      new : List ℕ
      new = ls ++ next ls n ∷ []

      long : length new ≡ suc n
      long = let grown = length_push ls (next ls n) in let was = a.long in omega (arith, grown, was)

      kept : (t : ℕ) → t ≤ n → level_at new t ≡ level_at ls t
      kept t low = let was = a.long in level_kept ls (next ls n) t (omega (arith, low, was))

      last : level_at new (suc n) ≡ next ls n
      last = level_new ls (next ls n) n a.long

      least : (t : ℕ) → 1 ≤ t → t ≤ suc n → 1 ≤ level_at new t
      least t first within =
          elim (cases_eq t (suc n)) [
            | inl same ↦ let e = ap (level_at new) same ∙ last in omega (arith, e)
            | inr other ↦
                let inside : t ≤ n = omega (arith, within, other) in
                let e = kept t inside in
                let h = a.least t first inside in
                omega (arith, e, h)
          ]

      rises : (t u : ℕ) → 1 ≤ t → t < u → u ≤ suc n → interfere t u ≡ true → level_at new t < level_at new u
      rises t u first before within meets =
          elim (cases_eq u (suc n)) [
            | inl same ↦
                let high : t < 1 + n = omega (arith, before, same) in
                let e = ap (level_at new) same ∙ last in
                let g = at_most_greatest (met ls (suc n)) 1 n t first high in
                let m = met_level ls (suc n) t (sym (ap (interfere t) same) ∙ meets) in
                let k = kept t (omega (arith, high)) in
                omega (arith, e, g, m, k)
            | inr other ↦
                let inside : u ≤ n = omega (arith, within, other) in
                let e = kept u inside in
                let k = kept t (omega (arith, inside, before)) in
                let h = a.rises t u first before inside meets in
                omega (arith, e, k, h)
          ]

      follows : (u k : ℕ) → 1 ≤ u → u ≤ suc n → level_at new u ≡ suc (suc k) → Follows interfere new u (suc k)
      follows u k first within level =
          elim (cases_eq u (suc n)) [
            | inl same ↦
                let e = sym last ∙ ap (level_at new) (sym same) ∙ level in
                let found = greatest_is (met ls (suc n)) 1 n k (omega (arith, e)) in
                let there = met_there (interfere found.at (suc n)) (level_at ls found.at) k found.is in
                let high = found.high in
                record {
                  time = found.at;
                  first = found.low;
                  earlier = omega (arith, high, same);
                  interferes = ap (interfere found.at) same ∙ there.0;
                  has = kept found.at (omega (arith, high)) ∙ there.1;
                }
            | inr other ↦
                let inside : u ≤ n = omega (arith, within, other) in
                let f = a.follows u k first inside (sym (kept u inside) ∙ level) in
                let earlier = f.earlier in
                record {
                  time = f.time;
                  first = f.first;
                  earlier = earlier;
                  interferes = f.interferes;
                  has = kept f.time (omega (arith, earlier, inside)) ∙ f.has;
                }
          ]

  pub levels_are : (n : ℕ) → AreLevels interfere n (levels interfere n)
  levels_are zero = record {
    long = refl;
    least = λ t first within. absurd (omega (arith, first, within));
    rises = λ t u first before within. absurd (omega (arith, first, before, within));
    follows = λ u k first within. absurd (omega (arith, first, within));
  }
  levels_are (suc n) = one_more n (levels interfere n) (levels_are n)
