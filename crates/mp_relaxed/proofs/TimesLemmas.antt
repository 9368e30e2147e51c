-- How often a number stands in a list.
use Rattle.std.proofs.Common.{◌≡◌, ◌≢◌, ℕ, zero, suc, ◌+◌, ◌<◌, ◌≤◌, Bool, true, false, cond, eqb, List, [], ◌∷◌, ◌++◌, length, take, drop, Contains, refl, sym, ap, arith}
use Rattle.std.proofs.lemmas.Bool.{eq-eqb, ne_eqb}
use Rattle.std.proofs.lemmas.List.{take-append-drop}
use Rattle.mp_relaxed.specs.Users.{times}

pub times-append : (k : ℕ) (xs ys : List ℕ) → times k (xs ++ ys) ≡ times k xs + times k ys
times-append k [] ys = omega arith
times-append k (x ∷ xs) ys = by (eqb x k) (times-append k xs ys)
  where
    by : (b : Bool) → times k (xs ++ ys) ≡ times k xs + times k ys → cond b (times k (xs ++ ys) + 1) (times k (xs ++ ys)) ≡ cond b (times k xs + 1) (times k xs) + times k ys
    by true e = omega arith
    by false e = omega arith

-- no more often in the first items
pub times_taken : (k : ℕ) (xs : List ℕ) (n : ℕ) → times k (take n xs) ≤ times k xs
times_taken k xs n =
    let parts = times-append k (take n xs) (drop n xs) in
    let whole = ap (times k) (take-append-drop n xs) in
    omega arith

pub times_same : (k : ℕ) → times k (k ∷ []) ≡ 1
times_same k = ap (λ b. cond b (0 + 1) 0) (eq-eqb k k refl)

pub times_other : (j k : ℕ) → j ≢ k → times j (k ∷ []) ≡ 0
times_other j k ne = ap (λ b. cond b (0 + 1) 0) (ne_eqb k j (λ e. ne (sym e)))

pub times_contained : (k : ℕ) (xs : List ℕ) → Contains xs k → 1 ≤ times k xs
times_contained k [] h = absurd (omega (arith, h.1))
times_contained k (x ∷ xs) (zero, lt, e) =
    let same : times k (x ∷ xs) ≡ times k xs + 1 = ap (λ b. cond b (times k xs + 1) (times k xs)) (eq-eqb x k e) in
    omega arith
times_contained k (x ∷ xs) (suc i, lt, e) = by (eqb x k) (times_contained k xs (i, (let h : i < length xs = omega arith in h), e))
  where
    by : (b : Bool) → 1 ≤ times k xs → 1 ≤ cond b (times k xs + 1) (times k xs)
    by true h = omega arith
    by false h = omega arith
