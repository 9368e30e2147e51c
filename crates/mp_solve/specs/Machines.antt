-- The machines of tasks.
use Rattle.std.specs.Prelude.{◌≤◌, ℕ, List, length, map}
use Rattle.mp_task.specs.AgentTask.{AgentTask}
use Rattle.mp_task.specs.Agreement.{Agree}
use Rattle.mp_task.specs.Limits.{most_expansions}
use Rattle.mp_machine.specs.Machine.{AgentMachine}
use Rattle.mp_world.specs.Values.{Values}
use Rattle.mp_schedule.specs.Machines.{new_machine}

-- agents with these tasks may begin, each of which may expand so many entries
pub record MayBegin (limit : ℕ) (tasks : List AgentTask) : Type 0 where
  pub from_1 : 1 ≤ limit
  pub most : limit ≤ most_expansions
  pub agree : Agree tasks
  pub some : 1 ≤ length tasks
  pub at_most : length tasks ≤ 16

-- a new machine for each task
abbrev pub new_machines : Values → ℕ → List AgentTask → List AgentMachine
new_machines value limit tasks = map (new_machine value limit) tasks
