-- What a heuristic's laws give where there is a plan at no more than a cost: there is a value, and it is at most the
-- cost.
use Rattle.std.proofs.Common.{◌≡◌, ℕ, ◌≤◌, List, Option, Some, None, refl, arith}
use Rattle.std.specs.Option.{IsSome, IfSome}
use Rattle.mp_runs.specs.System.{System, IsPlanFrom, plan_cost}
use Rattle.mp_runs.proofs.Simulations.{IsAnsweringPlan}

module _ {S A : Type 0} (system : System S A) (StandFor : List A → Type 0) (s : S) (cost : ℕ) (found : IsAnsweringPlan system StandFor (λ c d. c ≤ d) s cost) where
  pub value_is_some : (value : Option ℕ) → (value ≡ None → (plan : List A) → ¬ IsPlanFrom system s plan) → IsSome value
  value_is_some None dead = absurd (dead refl found.plan found.plans)
  value_is_some (Some h) dead = refl

  pub value_at_most : (value : Option ℕ) → ((plan : List A) → IsPlanFrom system s plan → IfSome value (λ h. h ≤ plan_cost system plan)) → IfSome value (λ h. h ≤ cost)
  value_at_most None admissible = tt
  value_at_most (Some h) admissible = omega (arith, admissible found.plan found.plans, found.fits)
