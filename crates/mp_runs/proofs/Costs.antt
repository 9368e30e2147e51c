-- What plans cost.
use Rattle.std.proofs.Common.{◌≡◌, ◌+◌, ◌≤◌, List, [], ◌∷◌, ◌++◌, refl, zero-le, arith}
use Rattle.std.proofs.lemmas.List.Sums.{sum_by-cons, sum_by-append}
use Rattle.mp_runs.specs.Simulation.{GoesOverToSums}
use Rattle.mp_runs.specs.System.{System, plan_cost}

pub plan_cost-cons : {S A : Type 0} (system : System S A) (a : A) (plan : List A) → plan_cost system (a ∷ plan) ≡ system.cost a + plan_cost system plan
plan_cost-cons system a plan = sum_by-cons system.cost a plan

pub plan_cost-one : {S A : Type 0} (system : System S A) (a : A) → plan_cost system (a ∷ []) ≡ system.cost a
plan_cost-one system a = omega arith

pub plan_cost-append : {S A : Type 0} (system : System S A) (before plan : List A) → plan_cost system (before ++ plan) ≡ plan_cost system before + plan_cost system plan
plan_cost-append system before plan = sum_by-append system.cost before plan

-- the two relations of costs that are used
pub equal_costs : GoesOverToSums (λ a b. a ≡ b)
equal_costs = record { nothing = refl; both = λ a b c d e f. (λ i. e i + f i) }

pub smaller_costs : GoesOverToSums (λ a b. a ≤ b)
smaller_costs = record { nothing = zero-le; both = λ a b c d e f. omega (arith, e, f) }
