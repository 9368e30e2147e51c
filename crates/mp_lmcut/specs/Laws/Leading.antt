-- What operators lead to: it is closed under them, and nothing else is in it.
use Rattle.std.proofs.Common.{◌≡◌, ℕ, ◌+◌, Bool, true, false, cond, max, get_or, Option, Some, None, option_map, List, [], ◌∷◌, ◌&&◌, length, All, refl, sym, ap, subst}
use Rattle.std.proofs.lemmas.Bool.{false≢true, true≢false}
use Rattle.std.specs.FinSet as set
use Rattle.std.specs.List.{list_all}
use Rattle.std.specs.Option.{is_some}
use Rattle.mp_sets.specs.Numbers.{Numbers}
use Rattle.mp_task.specs.Strips.{Operator}
use Rattle.mp_estimates.specs.Estimates.{AtMost, greater, Values}
use Rattle.mp_estimates.specs.Laws.Order.{AtMost-refl, zero_AtMost}
use Rattle.mp_relaxed.specs.Values.{greatest, cost_by, adds, least_cost, next_values, fact_values}
use Rattle.mp_relaxed.specs.Laws.Equations.{least_above, least_below}
use Rattle.mp_relaxed.specs.Laws.Rounds.{below_rounds, settled}
use Rattle.mp_relaxed.specs.Laws.Bounds.{start_zero}
use Rattle.mp_lmcut.specs.Cut.{all_valued, leads}

pub some_at_most : (a : Option ℕ) (n : ℕ) → AtMost a (Some n) → is_some a ≡ true
some_at_most None n h = absurd h
some_at_most (Some m) n h = refl

-- facts that all have values have a greatest one
pub greatest_some : (v : Values) (xs : List ℕ) → all_valued v xs ≡ true → (n : ℕ) × (greatest v xs ≡ Some n)
greatest_some v [] h = (0, refl)
greatest_some v (x ∷ xs) h = by (v x) h (greatest_some v xs)
  where
    by : (a : Option ℕ) → (is_some a && all_valued v xs) ≡ true → (all_valued v xs ≡ true → (n : ℕ) × (greatest v xs ≡ Some n)) → (n : ℕ) × (greater a (greatest v xs) ≡ Some n)
    by None k rest = absurd (false≢true k)
    by (Some m) k rest = let r = rest k in (max m r.0, ap (greater (Some m)) r.1)

module _ (os : List Operator) (s : Numbers) where
  -- what an operator adds is worth no more than its cost by it
  pub adds_low : All (λ o. (x : ℕ) → adds o x ≡ true → AtMost (fact_values os s x) (cost_by (fact_values os s) o)) os
  adds_low = λ k d lt x e.
      subst (λ a. AtMost a (cost_by (fact_values os s) (get_or os k d))) (sym (settled os s x))
      (by x (cost_by (fact_values os s) (get_or os k d)) (set.contains s x) (least_below (fact_values os s) x os k d lt e))
    where
      by : (x : ℕ) (c : Option ℕ) (b : Bool) → AtMost (least_cost (fact_values os s) os x) c → AtMost (cond b (Some 0) (least_cost (fact_values os s) os x)) c
      by x c true h = zero_AtMost c
      by x c false h = h

  -- where the preconditions of an operator all have values, so has what it adds
  pub adds_valued : (o : Operator) (x : ℕ) → AtMost (fact_values os s x) (cost_by (fact_values os s) o) → all_valued (fact_values os s) o.pre ≡ true → is_some (fact_values os s x) ≡ true
  adds_valued o x low valued =
      let some = greatest_some (fact_values os s) o.pre valued in
      some_at_most (fact_values os s x) (o.cost + some.0)
      (subst (λ a. AtMost (fact_values os s x) (option_map (λ h. o.cost + h) a)) some.1 low)

  pub leads_to_start : (x : ℕ) → set.contains s x ≡ true → leads os s x ≡ true
  unfolding leads
  leads_to_start x member = some_at_most (fact_values os s x) 0 (start_zero os s x member)

  pub leads_on : All (λ o. list_all (leads os s) o.pre ≡ true → (x : ℕ) → adds o x ≡ true → leads os s x ≡ true) os
  unfolding leads
  leads_on = λ k d lt ready x e. adds_valued (get_or os k d) x (adds_low k d lt x e) ready

  module _ (P : ℕ → Bool) where
    mark : Values
    mark x = cond (P x) (Some 0) None

    mark_none : (xs : List ℕ) → list_all P xs ≡ false → greatest mark xs ≡ None
    unfolding mark
    mark_none [] e = absurd (true≢false e)
    mark_none (x ∷ xs) e = by (P x) e (mark_none xs)
      where
        by : (b : Bool) → (b && list_all P xs) ≡ false → (list_all P xs ≡ false → greatest mark xs ≡ None) → greater (cond b (Some 0) None) (greatest mark xs) ≡ None
        by true h rest = ap (greater (Some 0)) (rest h)
        by false h rest = refl

    mark_by : (o : Operator) (x : ℕ) → (list_all P o.pre ≡ true → (y : ℕ) → adds o y ≡ true → P y ≡ true) → adds o x ≡ true → AtMost (mark x) (cost_by mark o)
    unfolding mark
    mark_by o x closed adding = by (list_all P o.pre) refl
      where
        by : (b : Bool) → list_all P o.pre ≡ b → AtMost (mark x) (cost_by mark o)
        by true e = subst (λ b. AtMost (cond b (Some 0) None) (cost_by mark o)) (sym (closed e x adding)) (zero_AtMost (cost_by mark o))
        by false e = subst (λ a. AtMost (mark x) (option_map (λ h. o.cost + h) a)) (sym (mark_none o.pre e)) tt

    mark_low : ((x : ℕ) → set.contains s x ≡ true → P x ≡ true) → All (λ o. list_all P o.pre ≡ true → (x : ℕ) → adds o x ≡ true → P x ≡ true) os → (x : ℕ) → AtMost (mark x) (next_values os s mark x)
    unfolding mark
    mark_low start closed x = by (set.contains s x) refl
      where
        by : (b : Bool) → set.contains s x ≡ b → AtMost (mark x) (cond b (Some 0) (least_cost mark os x))
        by true e = subst (λ b. AtMost (cond b (Some 0) None) (Some 0)) (sym (start x e)) (AtMost-refl (Some 0))
        by false e = least_above mark (mark x) x os (λ k d lt adding. mark_by (get_or os k d) x (closed k d lt) adding)

    -- what the facts of the set have, and each operator keeps, all has to which the operators lead
    pub leads_only : ((x : ℕ) → set.contains s x ≡ true → P x ≡ true) → All (λ o. list_all P o.pre ≡ true → (x : ℕ) → adds o x ≡ true → P x ≡ true) os → (x : ℕ) → leads os s x ≡ true → P x ≡ true
    unfolding leads mark
    leads_only start closed x = last (P x) (fact_values os s x) (below_rounds os s mark (mark_low start closed) (length os + 1) x)
      where
        last : (b : Bool) (a : Option ℕ) → AtMost (cond b (Some 0) None) a → is_some a ≡ true → b ≡ true
        last true a h k = refl
        last false None h k = absurd (false≢true k)
        last false (Some n) h k = absurd h
