-- Whether the private goals of agents hold (the met byte of a state stands for this).
use Rattle.std.specs.Prelude.{Bool, List, map}
use Rattle.std.specs.FinSet as set
use Rattle.mp_sets.specs.Numbers.{Numbers, holds}
use Rattle.mp_task.specs.AgentTask.{AgentTask}

-- all private goals of an agent hold in a set of its private facts
abbrev pub is_met : AgentTask → Numbers → Bool
is_met t privates = holds privates t.goal_priv

-- for each agent, whether its private goals hold at the start
abbrev pub met_at_start : List AgentTask → List Bool
met_at_start tasks = map (λ t. is_met t (set.from_list t.start_priv)) tasks
