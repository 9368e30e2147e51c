-- The heuristic hmax (Bonet and Geffner 2001).
use Rattle.std.specs.Prelude.{ℕ, Option, List}
use Rattle.mp_sets.specs.Numbers.{Numbers}
use Rattle.mp_task.specs.AgentTask.{AgentTask}
use Rattle.mp_task.specs.Projected.{projected, projected_state}
use Rattle.mp_task.specs.Strips.{Operator}
use Rattle.mp_relaxed.specs.Values.{fact_values, greatest}

-- hmax of a state for some goals
abbrev pub hmax_of : List Operator → List ℕ → Numbers → Option ℕ
hmax_of operators goals s = greatest (fact_values operators s) goals

-- the heuristic on an agent's projected problem
abbrev pub hmax : AgentTask → Numbers → Numbers → Option ℕ
hmax t publics privates =
    hmax_of (projected t).operators (projected t).goals (projected_state t publics privates)
