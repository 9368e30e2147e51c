-- Problems at other costs.
use Rattle.std.proofs.Common.{◌≡◌, ℕ, zero, suc, ◌<◌, Bool, List, [], ◌∷◌, length, map, All, refl, sym, ap, ◌∙◌, subst, arith}
use Rattle.mp_task.specs.Strips.{Operator}
use Rattle.mp_relaxed.specs.Relaxed.{RelaxedProblem, operator_at, priced}
use Rattle.mp_relaxed.specs.Users.{times}
use Rattle.mp_lmcut.specs.Cut.{cheaper_where, priced_by}
use Rattle.mp_lmcut.specs.Sides.{AreAdders, costless, repriced}

pub length-priced_by : (cost : Operator → ℕ) (os : List Operator) → length (priced_by cost os) ≡ length os
length-priced_by cost [] = refl
length-priced_by cost (o ∷ os) = ap suc (length-priced_by cost os)

pub add_at : (cost : Operator → ℕ) (os : List Operator) (k : ℕ) → (operator_at (priced_by cost os) k).add ≡ (operator_at os k).add
add_at cost [] k = refl
add_at cost (o ∷ os) zero = refl
add_at cost (o ∷ os) (suc k) = add_at cost os k

priced_same : (costs : List ℕ) (os : List Operator) → priced costs (priced_by (λ _. 0) os) ≡ priced costs os
priced_same [] os = refl
priced_same (c ∷ costs) [] = refl
priced_same (c ∷ costs) (o ∷ os) = ap (λ l. record o { cost = c } ∷ l) (priced_same costs os)

priced_freed : (costs : List ℕ) (os : List Operator) → length costs ≡ length os → priced_by (λ _. 0) (priced costs os) ≡ priced_by (λ _. 0) os
priced_freed [] [] e = refl
priced_freed [] (o ∷ os) e = absurd (omega (arith, e))
priced_freed (c ∷ costs) [] e = absurd (omega (arith, e))
priced_freed (c ∷ costs) (o ∷ os) e = ap (λ l. record o { cost = 0 } ∷ l) (priced_freed costs os (omega (arith, e)))

freed_again : (cost : Operator → ℕ) (os : List Operator) → priced_by (λ _. 0) (priced_by cost os) ≡ priced_by (λ _. 0) os
freed_again cost [] = refl
freed_again cost (o ∷ os) = ap (λ l. record o { cost = 0 } ∷ l) (freed_again cost os)

priced_own : (os : List Operator) → priced (map {A = Operator} (λ o. o.cost) os) os ≡ os
priced_own [] = refl
priced_own (o ∷ os) = ap (λ l. o ∷ l) (priced_own os)

-- a problem at its own costs

pub repriced_own : (costs : List ℕ) (r : RelaxedProblem) → costs ≡ map (λ o. o.cost) r.operators → repriced costs r ≡ r
repriced_own costs r e =
    ap (λ l. record r { operators = priced l r.operators }) e ∙ ap (λ os. record r { operators = os }) (priced_own r.operators)

-- other costs change nothing else

pub costless_repriced : (costs : List ℕ) (r : RelaxedProblem) → length costs ≡ length r.operators → costless (repriced costs r) ≡ costless r
costless_repriced costs r e = ap (λ os. record r { operators = os }) (priced_freed costs r.operators e)

pub costless_cheaper : (such : Operator → Bool) (by : ℕ) (r : RelaxedProblem) → costless (record r { operators = cheaper_where such by r.operators }) ≡ costless r
costless_cheaper such by r = ap (λ os. record r { operators = os }) (freed_again _ r.operators)

-- problems that differ in their costs alone

module _ (a b : RelaxedProblem) (same : costless a ≡ costless b) where
  pub same_priced : (costs : List ℕ) → repriced costs a ≡ repriced costs b
  same_priced costs =
      ap (λ os. record a { operators = os }) (sym (priced_same costs a.operators))
      ∙ ap (repriced costs) same
      ∙ ap (λ os. record b { operators = os }) (priced_same costs b.operators)

  pub as_many : length a.operators ≡ length b.operators
  as_many =
      sym (length-priced_by (λ _. 0) a.operators)
      ∙ ap (λ (r : RelaxedProblem). length r.operators) same
      ∙ length-priced_by (λ _. 0) b.operators

  pub as_many_facts : a.facts ≡ b.facts
  as_many_facts = ap (λ (r : RelaxedProblem). r.facts) same

  pub as_many_publics : a.publics ≡ b.publics
  as_many_publics = ap (λ (r : RelaxedProblem). r.publics) same

adders_between : (a b : List Operator) (facts : ℕ) (lists : List (List ℕ)) → length a ≡ length b → ((k : ℕ) → (operator_at a k).add ≡ (operator_at b k).add) → AreAdders a facts lists → AreAdders b facts lists
adders_between a b facts lists len same h = record {
  sized = h.sized;
  all = λ x k lt. ap (times x) (sym (same k)) ∙ h.all x k (omega (arith, len, lt));
  below = subst (λ m. All (All (λ k. k < m)) lists) len h.below;
}

pub same_adders : (a b : RelaxedProblem) (lists : List (List ℕ)) → costless a ≡ costless b → AreAdders a.operators a.facts lists → AreAdders b.operators b.facts lists
same_adders a b lists same h =
    adders_between (priced_by (λ _. 0) b.operators) b.operators b.facts lists (length-priced_by (λ _. 0) b.operators) (add_at (λ _. 0) b.operators)
    (subst (λ (r : RelaxedProblem). AreAdders r.operators r.facts lists) same
    (adders_between a.operators (priced_by (λ _. 0) a.operators) a.facts lists (sym (length-priced_by (λ _. 0) a.operators)) (λ k. sym (add_at (λ _. 0) a.operators k)) h))
