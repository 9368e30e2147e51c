-- All rounds: the costs of their cuts together are at most the cost of each plan, and small.
use Rattle.std.proofs.Common.{◌≡◌, ℕ, zero, suc, ◌+◌, ◌-◌, ◌*◌, ◌^◌, ◌<◌, ◌≤◌, Bool, true, false, cond, get_or, Option, Some, None, option_map, List, length, All, refl, sym, ap, subst, zero-le, arith}
use Rattle.std.proofs.lemmas.Bool.{lt-ltb}
use Rattle.std.proofs.lemmas.List.Elements.{All-filter, All-map}
use Rattle.std.specs.Option.{IfSome}
use Rattle.mp_runs.specs.System.{IsPlanFrom, plan_cost}
use Rattle.mp_sets.specs.Numbers.{Numbers}
use Rattle.mp_task.specs.AgentTask.{AgentTask}
use Rattle.mp_task.specs.Limits.{IsWithinLimits}
use Rattle.mp_task.specs.Projected.{projected, projected_state}
use Rattle.mp_task.specs.Seen.{seen_system}
use Rattle.mp_task.specs.Strips.{Operator, Problem, strips_system}
use Rattle.mp_estimates.specs.Estimates.{AtMost, Values}
use Rattle.mp_estimates.specs.Laws.Order.{AtMost-refl, AtMost-trans}
use Rattle.mp_relaxed.specs.Values.{greatest, fact_values}
use Rattle.mp_relaxed.specs.Laws.Rounds.{settled}
use Rattle.mp_relaxed.specs.Laws.Bounds.{at_most_plans, costs_fit, operators_fit, start_zero}
use Rattle.mp_lmcut.specs.Cut.{in_cut, cut_cost, lowered, is_positive, cuts, lmcut, priced_by}
use Rattle.mp_lmcut.specs.Laws.Round.{far, far_low, far_start, goals_cost}
use Rattle.mp_lmcut.specs.Laws.Costs.{with_operators, still_plans, costs_part, least_of_some, least_small}

module _ (p : Problem) (s : Numbers) where
  abbrev v : Values
  v = fact_values p.operators s

  abbrev cut : Operator → Bool
  cut = in_cut v p.operators p.goals s

  abbrev paid : ℕ
  paid = cut_cost v p.operators p.goals s

  -- what an operator costs after the round, and what it pays of the cut
  abbrev left : Operator → ℕ
  left o = cond (cut o) (o.cost - paid) o.cost

  abbrev part : Operator → ℕ
  part o = cond (cut o) paid 0

  paid_fits : All (λ o. cut o ≡ true → paid ≤ o.cost) p.operators
  unfolding cut_cost
  paid_fits = least_of_some cut p.operators

  parts : All (λ o. o.cost ≡ left o + part o) p.operators
  parts = λ k d lt. by (get_or p.operators k d) (paid_fits k d lt) (cut (get_or p.operators k d)) refl
    where
      by : (o : Operator) → (cut o ≡ true → paid ≤ o.cost) → (b : Bool) → cut o ≡ b → o.cost ≡ cond b (o.cost - paid) o.cost + cond b paid 0
      by o fits true e = let le = fits e in omega arith
      by o fits false e = omega arith

  -- the problem after the round
  abbrev next : Problem
  next = with_operators p (lowered v p.operators p.goals s)

  lowered_is : lowered v p.operators p.goals s ≡ priced_by left p.operators
  unfolding lowered
  lowered_is = refl

  module _ (k : ℕ) (costly : greatest v p.goals ≡ Some (suc k)) where
    -- each plan pays for the cut
    pub cut_is_paid : (plan : List ℕ) → IsPlanFrom (strips_system p) s plan → paid ≤ plan_cost (strips_system (with_operators p (priced_by part p.operators))) plan
    cut_is_paid plan plans =
        AtMost-trans (Some paid) (greatest (far p.operators s p.goals k costly paid) p.goals) (Some (plan_cost (strips_system (with_operators p (priced_by part p.operators))) plan))
        (goals_cost p.operators s p.goals k costly paid)
        (at_most_plans (with_operators p (priced_by part p.operators)) s (far p.operators s p.goals k costly paid) (far_low p.operators s p.goals k costly paid) plan
        (far_start p.operators s p.goals k costly paid) (still_plans p part s plan plans))

    -- so it costs at least the cut and what it costs after the round
    pub round_is_paid : (plan : List ℕ) → IsPlanFrom (strips_system p) s plan → paid + plan_cost (strips_system next) plan ≤ plan_cost (strips_system p) plan
    round_is_paid plan plans =
        let whole = costs_part p left part parts plan in
        let least = cut_is_paid plan plans in
        let same = ap (λ os. plan_cost (strips_system (with_operators p os)) plan) lowered_is in
        omega arith

  pub next_plans : (plan : List ℕ) → IsPlanFrom (strips_system p) s plan → IsPlanFrom (strips_system next) s plan
  next_plans plan plans = subst (λ os. IsPlanFrom (strips_system (with_operators p os)) s plan) (sym lowered_is) (still_plans p left s plan plans)

-- the cuts of any number of rounds together cost at most as much as each plan
pub cuts_are_paid : (rounds : ℕ) (p : Problem) (s : Numbers) (plan : List ℕ) → IsPlanFrom (strips_system p) s plan → cuts rounds p.operators p.goals s ≤ plan_cost (strips_system p) plan
unfolding cuts
cuts_are_paid zero p s plan plans = zero-le
cuts_are_paid (suc rounds) p s plan plans =
    by (greatest (fact_values p.operators s) p.goals) refl (cuts_are_paid rounds (next p s) s plan (next_plans p s plan plans))
  where
    by : (a : Option ℕ) → greatest (fact_values p.operators s) p.goals ≡ a → cuts rounds (next p s).operators p.goals s ≤ plan_cost (strips_system (next p s)) plan → cond (is_positive a) (paid p s + cuts rounds (next p s).operators p.goals s) 0 ≤ plan_cost (strips_system p) plan
    by None e rest = zero-le
    by (Some zero) e rest = zero-le
    by (Some (suc k)) e rest =
        let whole = round_is_paid p s k e plan plans in
        let le : paid p s + cuts rounds (next p s).operators p.goals s ≤ plan_cost (strips_system p) plan = omega arith in
        subst (λ b. cond b (paid p s + cuts rounds (next p s).operators p.goals s) 0 ≤ plan_cost (strips_system p) plan) (sym (lt-ltb 0 (suc k) (omega arith))) le

-- how great they are

cut_small : (p : Problem) (s : Numbers) (e : ℕ) → All (λ o. o.cost ≤ e) p.operators → paid p s ≤ e
unfolding cut_cost
cut_small p s e fits =
    least_small _ e (All-map (λ n. n ≤ e) (λ o. o.cost) _ (All-filter (cut p s) (λ o. o.cost ≤ e) p.operators fits))

pub lowered_small : (p : Problem) (s : Numbers) (e : ℕ) → All (λ o. o.cost ≤ e) p.operators → All (λ o. o.cost ≤ e) (next p s).operators
lowered_small p s e fits =
    subst (All (λ o. o.cost ≤ e)) (sym (lowered_is p s))
    (All-map {X = Operator} (λ o. o.cost ≤ e) (λ o. record o { cost = left p s o }) p.operators (λ k d lt. by (get_or p.operators k d) (cut p s (get_or p.operators k d)) (fits k d lt)))
  where
    by : (o : Operator) (b : Bool) → o.cost ≤ e → cond b (o.cost - paid p s) o.cost ≤ e
    by o true le = omega arith
    by o false le = le

pub cuts_small : (rounds : ℕ) (p : Problem) (s : Numbers) (e : ℕ) → All (λ o. o.cost ≤ e) p.operators → cuts rounds p.operators p.goals s ≤ rounds * e
unfolding cuts
cuts_small zero p s e fits = zero-le
cuts_small (suc rounds) p s e fits =
    by (is_positive (greatest (fact_values p.operators s) p.goals)) (cuts_small rounds (next p s) s e (lowered_small p s e fits)) (cut_small p s e fits)
  where
    by : (b : Bool) → cuts rounds (next p s).operators p.goals s ≤ rounds * e → paid p s ≤ e → cond b (paid p s + cuts rounds (next p s).operators p.goals s) 0 ≤ suc rounds * e
    by true rest le = let more : e + rounds * e ≡ suc rounds * e = omega arith in omega arith
    by false rest le = zero-le

-- the heuristic

pub lmcut_is_small : (t : AgentTask) (p q : Numbers) → IsWithinLimits t → IfSome (lmcut t p q) (λ h. h < 2 ^ 50)
lmcut_is_small t p q fits =
    by (greatest (fact_values (projected t).operators (projected_state t p q)) (projected t).goals)
    (cuts_small (length (projected t).operators) (projected t) (projected_state t p q) 16000000 (costs_fit t fits))
  where
    by : (a : Option ℕ) → cuts (length (projected t).operators) (projected t).operators (projected t).goals (projected_state t p q) ≤ length (projected t).operators * 16000000 → IfSome (option_map (λ _. cuts (length (projected t).operators) (projected t).operators (projected t).goals (projected_state t p q)) a) (λ h. h < 2 ^ 50)
    by None le = tt
    by (Some n) le = let few = operators_fit t fits in omega arith

pub lmcut_is_admissible : (t : AgentTask) (p q : Numbers) (plan : List ℕ) → IsPlanFrom (seen_system t) (projected_state t p q) plan → IfSome (lmcut t p q) (λ h. h ≤ plan_cost (seen_system t) plan)
lmcut_is_admissible t p q plan plans =
    by (greatest (fact_values (projected t).operators (projected_state t p q)) (projected t).goals)
    (cuts_are_paid (length (projected t).operators) (projected t) (projected_state t p q) plan plans)
  where
    by : (a : Option ℕ) → cuts (length (projected t).operators) (projected t).operators (projected t).goals (projected_state t p q) ≤ plan_cost (seen_system t) plan → IfSome (option_map (λ _. cuts (length (projected t).operators) (projected t).operators (projected t).goals (projected_state t p q)) a) (λ h. h ≤ plan_cost (seen_system t) plan)
    by None le = tt
    by (Some n) le = le

pub lmcut_is_dead : (t : AgentTask) (p q : Numbers) (plan : List ℕ) → lmcut t p q ≡ None → ¬ IsPlanFrom (seen_system t) (projected_state t p q) plan
lmcut_is_dead t p q plan none plans =
    by (greatest v (projected t).goals) none
    (at_most_plans (projected t) (projected_state t p q) v (λ x. subst (AtMost (v x)) (settled (projected t).operators (projected_state t p q) x) (AtMost-refl (v x))) plan (start_zero (projected t).operators (projected_state t p q)) plans)
  where
    v : Values
    v = fact_values (projected t).operators (projected_state t p q)

    by : (a : Option ℕ) → option_map (λ _. cuts (length (projected t).operators) (projected t).operators (projected t).goals (projected_state t p q)) a ≡ None → AtMost a (Some (plan_cost (seen_system t) plan)) → ⊥
    by None e h = h
    by (Some n) e h = cc
