-- Problems of STRIPS with costs, over numbers of facts.
use Rattle.std.specs.Prelude.{ℕ, Option, Some, None, option_and_then, List, slice_get, if◌then◌else◌}
use Rattle.std.specs.Option.{option_map_or}
use Rattle.mp_runs.specs.System.{System}
use Rattle.mp_sets.specs.Numbers.{Numbers, holds, after}

-- an operator: what has to be true before it, what it makes true and false, and what it costs
pub record Operator : Type 0 where
  pub pre : List ℕ
  pub add : List ℕ
  pub del : List ℕ
  pub cost : ℕ

-- facts are the numbers below `facts`; what is true at the start is no part of the problem
pub record Problem : Type 0 where
  pub facts : ℕ
  pub operators : List Operator
  pub goals : List ℕ

-- the state after an operator: none where it may not be applied
abbrev pub after_operator : Numbers → Operator → Option Numbers
after_operator s o = if holds s o.pre then Some (after s o.del o.add) else None

-- The problem as a transition system, whose actions are the numbers of operators: all goals are
-- true in a goal state.
abbrev pub strips_system : Problem → System Numbers ℕ
strips_system problem = record {
  after = λ s k. option_and_then (after_operator s) (slice_get problem.operators k);
  cost = λ k. option_map_or (λ o. o.cost) (slice_get problem.operators k) 0;
  is_goal = λ s. holds s problem.goals;
}
