-- The least cost at which actions lead to a goal, by rounds (Bellman 1957).
use Rattle.std.specs.Prelude.{◌≡◌, ℕ, zero, suc, ◌+◌, ◌≤◌, Option, Some, None, option_map, option_and_then, List, [], ◌∷◌, length, All, Contains, IfSome, IsSomeAnd, if◌then◌else◌}
use Rattle.mp_estimates.specs.Estimates.{lesser}
use Rattle.mp_runs.specs.System.{System, IsPlanFrom, plan_cost}

-- what it costs by an action, from what it costs from the state after it
abbrev pub cost_by : {S A : Type 0} → System S A → (S → Option ℕ) → S → A → Option ℕ
cost_by system costs s a =
    option_and_then (λ t. option_map (λ c. system.cost a + c) (costs t)) (system.after s a)

-- the least that it costs by one of some actions: none where there is none
abbrev pub least_by : {S A : Type 0} → System S A → (S → Option ℕ) → S → List A → Option ℕ
least_by system costs s [] = None
least_by system costs s (a ∷ actions) =
    lesser (cost_by system costs s a) (least_by system costs s actions)

-- a goal costs nothing, and any other state the least by an action
abbrev pub next_costs : {S A : Type 0} → System S A → List A → (S → Option ℕ) → S → Option ℕ
next_costs system actions costs s =
    if system.is_goal s then Some 0 else least_by system costs s actions

-- what it costs by fewer actions than there were rounds
unfoldable pub after_rounds : {S A : Type 0} → System S A → List A → ℕ → S → Option ℕ
after_rounds system actions zero s = None
after_rounds system actions (suc n) s =
    next_costs system actions (after_rounds system actions n) s

-- The least cost of a list of some actions that leads from a state to a goal, where these are the
-- states that there are: none where there is no such list. A round for each state is enough.
abbrev pub distance : {S A : Type 0} → System S A → List A → List S → S → Option ℕ
distance system actions states s = after_rounds system actions (length states) s

-- a plan of some actions costs so much
abbrev pub HasPlan : {S A : Type 0} → System S A → List A → S → ℕ → Type 0
HasPlan {A = A} system actions s cost =
    (plan : List A)
    × (All (Contains actions) plan)
    × (IsPlanFrom system s plan)
    × (plan_cost system plan ≡ cost)

-- The least cost of the plans from a state that are made of some actions: none exactly where there
-- is no such plan.
pub record IsLeastCost
    {S A : Type 0}
    (system : System S A)
    (actions : List A)
    (s : S)
    (cost : Option ℕ)
    : Type 0 where
  pub attained : IfSome cost (λ n. HasPlan system actions s n)
  pub at_most :
      (plan : List A)
      → All (Contains actions) plan
      → IsPlanFrom system s plan
      → IsSomeAnd cost (λ n. n ≤ plan_cost system plan)

-- some states are all that some actions lead to from them
abbrev pub AreClosed : {S A : Type 0} → System S A → List A → List S → Type 0
AreClosed {S = S} {A = A} system actions states =
    (s t : S) (a : A)
    → Contains states s
    → Contains actions a
    → system.after s a ≡ Some t
    → Contains states t
