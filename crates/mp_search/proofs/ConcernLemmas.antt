-- Whether some of a row of numbers pass a test.
use Rattle.std.proofs.Common.{◌≡◌, ℕ, suc, ◌+◌, ◌-◌, ◌<◌, ◌≤◌, Bool, true, false, cond, not, ◌||◌, eqb, List, [], ◌∷◌, length, refl, ap, arith}
use Rattle.std.specs.List.{filter, list_any, range_with_len}
use Rattle.std.proofs.lemmas.Bool.Decides.{nat_tests}

above_none : (m : ℕ) → not (eqb (suc m) 0) ≡ true
above_none m = grind (arith, nat_tests)

-- some are kept exactly where one passes
pub some_kept : (test : ℕ → Bool) (xs : List ℕ) → not (eqb (length (filter test xs)) 0) ≡ list_any test xs
some_kept test [] = refl
some_kept test (x ∷ xs) = by (test x) (some_kept test xs)
  where
    by : (b : Bool) → not (eqb (length (filter test xs)) 0) ≡ list_any test xs → not (eqb (length (cond b (x ∷ filter test xs) (filter test xs))) 0) ≡ (b || list_any test xs)
    by true others = above_none (length (filter test xs))
    by false others = others

module _ (test : ℕ → Bool) (n b : ℕ) where
  -- the first of those that are left, and the others
  pub first_left : b < n → list_any test (range_with_len (b + 1) (n - b)) ≡ (test (b + 1) || list_any test (range_with_len (b + 1 + 1) (n - (b + 1))))
  first_left inside = ap (λ (m : ℕ). list_any test (range_with_len (b + 1) m)) more
    where
      more : n - b ≡ suc (n - (b + 1))
      more = omega (arith, inside)

  pub none_left : n ≤ b → list_any test (range_with_len (b + 1) (n - b)) ≡ false
  none_left past = ap (λ (m : ℕ). list_any test (range_with_len (b + 1) m)) none
    where
      none : n - b ≡ 0
      none = omega (arith, past)
