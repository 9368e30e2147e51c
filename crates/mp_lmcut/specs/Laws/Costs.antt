-- What plans cost where operators have other costs: the plans are the same, and costs part.
use Rattle.std.proofs.Common.{◌≡◌, ℕ, zero, suc, ◌+◌, ◌≤◌, Bool, true, get_or, Option, Some, None, option_map, List, [], ◌∷◌, map, All, refl, sym, ap, ◌∙◌, subst, zero-le, arith}
use Rattle.std.proofs.lemmas.List.Elements.{All-contains, All-cons, All-head, All-nil}
use Rattle.std.specs.List.{filter, slice_get}
use Rattle.std.specs.Option.{option_and_then, option_map_or, unwrap_or, IsSomeAnd}
use Rattle.mp_runs.specs.Run.{run}
use Rattle.mp_runs.specs.System.{IsPlanFrom, plan_cost}
use Rattle.mp_runs.proofs.Costs.{plan_cost-cons}
use Rattle.mp_sets.specs.Numbers.{Numbers, holds}
use Rattle.mp_task.specs.Strips.{Operator, Problem, after_operator, strips_system}
use Rattle.mp_task.proofs.Agreeing.{Contains-slice_get}
use Rattle.mp_estimates.specs.Estimates.{AtMost, lesser}
use Rattle.mp_estimates.specs.Laws.Order.{AtMost-trans, lesser_left, lesser_right}
use Rattle.mp_lmcut.specs.Cut.{least, priced_by}
use Rattle.mp_lmcut.specs.Laws.Lists.{All_filtered, All_mapped}

-- a problem with other operators
abbrev pub with_operators : Problem → List Operator → Problem
with_operators p os = record p { operators = os }

operator_of : (cost : Operator → ℕ) (os : List Operator) (k : ℕ) → slice_get (priced_by cost os) k ≡ option_map {T = Operator} (λ o. record o { cost = cost o }) (slice_get os k)
operator_of cost [] k = refl
operator_of cost (o ∷ os) zero = refl
operator_of cost (o ∷ os) (suc k) = operator_of cost os k

module _ (p : Problem) (cost : Operator → ℕ) where
  same_after : (s : Numbers) (k : ℕ) → (strips_system (with_operators p (priced_by cost p.operators))).after s k ≡ (strips_system p).after s k
  same_after s k = ap (option_and_then (after_operator s)) (operator_of cost p.operators k) ∙ by (slice_get p.operators k)
    where
      by : (m : Option Operator) → option_and_then (after_operator s) (option_map {T = Operator} (λ o. record o { cost = cost o }) m) ≡ option_and_then (after_operator s) m
      by None = refl
      by (Some o) = refl

  -- a plan is one at other costs too
  pub still_plans : (s : Numbers) (plan : List ℕ) → IsPlanFrom (strips_system p) s plan → IsPlanFrom (strips_system (with_operators p (priced_by cost p.operators))) s plan
  still_plans s plan plans =
      subst (λ (after : Numbers → ℕ → Option Numbers). IsSomeAnd (run after s plan) (λ last. holds last p.goals ≡ true))
      (λ i t k. sym (same_after t k) i) plans

  cost_of : (k : ℕ) → option_map_or (λ o. o.cost) (slice_get (priced_by cost p.operators) k) 0 ≡ option_map_or cost (slice_get p.operators k) 0
  cost_of k = ap (λ m. option_map_or (λ o. o.cost) m 0) (operator_of cost p.operators k) ∙ by (slice_get p.operators k)
    where
      by : (m : Option Operator) → option_map_or (λ o. o.cost) (option_map {T = Operator} (λ o. record o { cost = cost o }) m) 0 ≡ option_map_or cost m 0
      by None = refl
      by (Some o) = refl

module _ (p : Problem) (one two : Operator → ℕ) (both : All (λ o. o.cost ≡ one o + two o) p.operators) where
  abbrev priced_at : (Operator → ℕ) → Problem
  priced_at cost = with_operators p (priced_by cost p.operators)

  step_parts : (k : ℕ) → (strips_system p).cost k ≡ (strips_system (priced_at one)).cost k + (strips_system (priced_at two)).cost k
  step_parts k =
      let first = cost_of p one k in
      let second = cost_of p two k in
      let whole = by (slice_get p.operators k) (λ o e. All-contains (λ q. q.cost ≡ one q + two q) p.operators o both (Contains-slice_get p.operators k o e)) in
      omega arith
    where
      by : (m : Option Operator) → ((o : Operator) → m ≡ Some o → o.cost ≡ one o + two o) → option_map_or (λ o. o.cost) m 0 ≡ option_map_or one m 0 + option_map_or two m 0
      by None h = omega arith
      by (Some o) h = h o refl

  -- where each operator's cost is the sum of two, so is each plan's
  pub costs_part : (plan : List ℕ) → plan_cost (strips_system p) plan ≡ plan_cost (strips_system (priced_at one)) plan + plan_cost (strips_system (priced_at two)) plan
  costs_part [] = omega arith
  costs_part (k ∷ plan) =
      let rest = costs_part plan in
      let step = step_parts k in
      let whole = plan_cost-cons (strips_system p) k plan in
      let first = plan_cost-cons (strips_system (priced_at one)) k plan in
      let second = plan_cost-cons (strips_system (priced_at two)) k plan in
      omega arith

-- the least of some costs

pub least_low : (costs : List ℕ) → All (λ c. AtMost (least costs) (Some c)) costs
least_low [] = All-nil (λ c. AtMost None (Some c))
least_low (d ∷ costs) =
    All-cons (λ c. AtMost (lesser (Some d) (least costs)) (Some c)) d costs (lesser_left (Some d) (least costs))
    (λ k e lt. AtMost-trans (lesser (Some d) (least costs)) (least costs) (Some (get_or costs k e)) (lesser_right (Some d) (least costs)) (least_low costs k e lt))

at_most_it : (a : Option ℕ) (c : ℕ) → AtMost a (Some c) → unwrap_or a 0 ≤ c
at_most_it None c h = absurd h
at_most_it (Some n) c h = h

-- the least cost of those that pass a test is at most each one of theirs
pub least_of_some : (p : Operator → Bool) (os : List Operator) → All (λ o. p o ≡ true → unwrap_or (least (map (λ o. o.cost) (filter p os))) 0 ≤ o.cost) os
least_of_some p os =
    let c : Option ℕ = least (map (λ o. o.cost) (filter p os)) in
    All_filtered (λ o. unwrap_or c 0 ≤ o.cost) p os
    (λ k d lt. at_most_it c (get_or (filter p os) k d).cost
    (All_mapped (λ n. AtMost c (Some n)) (λ o. o.cost) (filter p os) (least_low (map (λ o. o.cost) (filter p os))) k d lt))

-- and at most what each one's cost is at most
pub least_small : (costs : List ℕ) (e : ℕ) → All (λ c. c ≤ e) costs → unwrap_or (least costs) 0 ≤ e
least_small [] e h = zero-le
least_small (c ∷ costs) e h = by (least costs) (All-head (λ n. n ≤ e) c costs h)
  where
    by : (a : Option ℕ) → c ≤ e → unwrap_or (lesser (Some c) a) 0 ≤ e
    by None le = le
    by (Some n) le = omega arith
