-- Transition systems with costs, and their plans.
use Rattle.std.specs.Prelude.{ℕ, Bool, Option, List, IsTrue, IsSomeAnd}
use Rattle.std.specs.List.{sum_by}
use Rattle.mp_runs.specs.Run.{run}

-- A transition system: the state after an action (none where the action may not be applied, or
-- where what is written as an action stands for none), what an action costs, and which states are
-- goals.
pub record System (S A : Type 0) : Type 0 where
  pub after : S → A → Option S
  pub cost : A → ℕ
  pub is_goal : S → Bool

-- the state after actions, one after another: none where one may not be applied in its turn
abbrev pub state_after : {S A : Type 0} → System S A → S → List A → Option S
state_after system s plan = run system.after s plan

-- a plan from a state: each action may be applied in its turn, and the state at the end is a goal
abbrev pub IsPlanFrom : {S A : Type 0} → System S A → S → List A → Type 0
IsPlanFrom system s plan =
    IsSomeAnd (state_after system s plan) (λ last. IsTrue (system.is_goal last))

-- what a plan costs: the sum of its actions' costs
abbrev pub plan_cost : {S A : Type 0} → System S A → List A → ℕ
plan_cost system plan = sum_by system.cost plan
