-- The values of a heuristic.
use Rattle.std.specs.Prelude.{ℕ, Option}
use Rattle.mp_sets.specs.Numbers.{Numbers}
use Rattle.mp_task.specs.AgentTask.{AgentTask}

-- for each task, and for each set of public and of private facts
abbrev pub Values : Type 0
Values = AgentTask → Numbers → Numbers → Option ℕ
