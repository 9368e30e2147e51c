-- The laws of the heuristic: how great a value is at most, and that it is at most the cost of each plan.
use Rattle.std.proofs.Common.{◌≡◌, ℕ, ◌+◌, ◌*◌, ◌^◌, ◌<◌, ◌≤◌, Option, Some, None, List, length, subst, arith}
use Rattle.std.specs.Option.{IfSome}
use Rattle.mp_runs.specs.System.{IsPlanFrom, plan_cost}
use Rattle.mp_sets.specs.Numbers.{Numbers}
use Rattle.mp_task.specs.AgentTask.{AgentTask}
use Rattle.mp_task.specs.Limits.{IsWithinLimits}
use Rattle.mp_task.specs.Projected.{projected, projected_state}
use Rattle.mp_task.specs.Seen.{seen_system}
use Rattle.mp_estimates.specs.Estimates.{AtMost}
use Rattle.mp_estimates.specs.Laws.Order.{AtMost-refl}
use Rattle.mp_relaxed.specs.Values.{fact_values}
use Rattle.mp_relaxed.specs.Laws.Bounds.{at_most_plans, costs_fit, greatest-Below, operators_fit, rounds-Below, start_zero}
use Rattle.mp_relaxed.specs.Laws.Rounds.{settled}
use Rattle.mp_hmax.specs.Hmax.{hmax}

pub hmax_is_small : (t : AgentTask) (p q : Numbers) → IsWithinLimits t → IfSome (hmax t p q) (λ h. h < 2 ^ 50)
hmax_is_small t p q fits =
    let os = (projected t).operators in
    let state = projected_state t p q in
    by (hmax t p q)
    (greatest-Below ((length os + 1) * 16000000) (fact_values os state) (projected t).goals (rounds-Below os state 16000000 (costs_fit t fits) (length os + 1)))
  where
    by : (a : Option ℕ) → IfSome a (λ h. h ≤ (length (projected t).operators + 1) * 16000000) → IfSome a (λ h. h < 2 ^ 50)
    by None h = tt
    by (Some h) le =
        let few = operators_fit t fits in
        omega arith

hmax_at_most : (t : AgentTask) (p q : Numbers) (plan : List ℕ) → IsPlanFrom (seen_system t) (projected_state t p q) plan → AtMost (hmax t p q) (Some (plan_cost (seen_system t) plan))
hmax_at_most t p q plan plans =
    let os = (projected t).operators in
    let s = projected_state t p q in
    at_most_plans (projected t) s (fact_values os s) (λ x. subst (AtMost (fact_values os s x)) (settled os s x) (AtMost-refl (fact_values os s x))) plan (start_zero os s) plans

pub hmax_is_admissible : (t : AgentTask) (p q : Numbers) (plan : List ℕ) → IsPlanFrom (seen_system t) (projected_state t p q) plan → IfSome (hmax t p q) (λ h. h ≤ plan_cost (seen_system t) plan)
hmax_is_admissible t p q plan plans = by (hmax t p q) (hmax_at_most t p q plan plans)
  where
    by : (a : Option ℕ) → AtMost a (Some (plan_cost (seen_system t) plan)) → IfSome a (λ h. h ≤ plan_cost (seen_system t) plan)
    by None h = tt
    by (Some h) le = le

pub hmax_is_dead : (t : AgentTask) (p q : Numbers) (plan : List ℕ) → hmax t p q ≡ None → ¬ IsPlanFrom (seen_system t) (projected_state t p q) plan
hmax_is_dead t p q plan none plans =
    subst (λ a. AtMost a (Some (plan_cost (seen_system t) plan))) none (hmax_at_most t p q plan plans)
