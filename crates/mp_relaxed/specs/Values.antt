-- The values of facts from which the heuristic hmax is made (Bonet and Geffner 2001), by their equations.
use Rattle.std.specs.Prelude.{◌≡◌, ℕ, zero, suc, ◌+◌, ◌==◌, Bool, Option, Some, None, List, [], ◌∷◌, length, option_map, if◌then◌else◌}
use Rattle.std.specs.FinSet as set
use Rattle.std.specs.List.{list_any}
use Rattle.mp_sets.specs.Numbers.{Numbers}
use Rattle.mp_task.specs.Strips.{Operator}
use Rattle.mp_estimates.specs.Estimates.{AtMost, lesser, greater, Values}

-- the greatest value of some facts: 0 without any, and none where one of them has none
abbrev pub greatest : Values → List ℕ → Option ℕ
greatest values [] = Some 0
greatest values (x ∷ xs) = greater (values x) (greatest values xs)

-- what an operator's adds cost by it: its cost and the greatest value of its preconditions
abbrev pub cost_by : Values → Operator → Option ℕ
cost_by values o = option_map (λ h. o.cost + h) (greatest values o.pre)

abbrev pub adds : Operator → ℕ → Bool
adds o x = list_any (λ y. y == x) o.add

-- the least that a fact costs by an operator that adds it: none where there is none
abbrev pub least_cost : Values → List Operator → ℕ → Option ℕ
least_cost values [] x = None
least_cost values (o ∷ operators) x =
    if adds o x then lesser (cost_by values o) (least_cost values operators x)
    else least_cost values operators x

-- the right side of the equations: a fact of the state has 0, any other one what it costs
abbrev pub next_values : List Operator → Numbers → Values → Values
next_values operators s values x =
    if set.contains s x then Some 0 else least_cost values operators x

-- Values that satisfy the equations. Facts that get their values from one another alone, at a cost of
-- zero, may have values here that the state does not give them.
abbrev pub Satisfies : List Operator → Numbers → Values → Type 0
Satisfies operators s values = (x : ℕ) → values x ≡ next_values operators s values x

-- the greatest values that satisfy the equations, where none is above every number
pub record AreGreatest (operators : List Operator) (s : Numbers) (values : Values) : Type 0 where
  pub satisfy : Satisfies operators s values
  pub greatest :
      (others : Values)
      → Satisfies operators s others
      → (x : ℕ)
      → AtMost (others x) (values x)

-- The values after some rounds, where no fact has a value before the first one, and each round takes
-- the right sides of the equations.
unfoldable pub after_rounds : List Operator → Numbers → ℕ → Values
after_rounds operators s zero x = None
after_rounds operators s (suc k) x = next_values operators s (after_rounds operators s k) x

-- One round more than there are operators is enough: nothing changes from there on.
abbrev pub fact_values : List Operator → Numbers → Values
fact_values operators s = after_rounds operators s (length operators + 1)
