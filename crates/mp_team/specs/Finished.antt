-- A team whose agents have all ended.
use Rattle.std.specs.Prelude.{◌≡◌, ℕ, true, List, map, Some}
use Rattle.mp_task.specs.AgentTask.{AgentTask}
use Rattle.mp_messages.specs.History.{schedule}
use Rattle.mp_schedule.specs.Machines.{tasks_of}
use Rattle.mp_world.specs.Events.{run}
use Rattle.mp_world.specs.Logs.{IsLog}
use Rattle.mp_world.specs.RoundRobin.{is_over}
use Rattle.mp_world.specs.Team.{team_with}
use Rattle.mp_world.specs.Values.{Values}
use Rattle.mp_world.specs.World.{World}
use Rattle.mp_team.specs.declared.ending.Finished.{Finished}

-- The log is one of the team. The run of its schedule leads to a world in which all agents have ended, and the machines have
-- done what the agents have done there.
pub record HasFinished
    {H : Type 0}
    (value : Values)
    (limit : ℕ)
    (tasks : List AgentTask)
    (f : Finished H)
    : Type 0 where
  pub tasks_are : tasks_of f.machines.items ≡ tasks
  pub is_log : IsLog (team_with value limit tasks) f.log
  pub last : World
  pub leads : run (team_with value limit tasks) (schedule f.log) ≡ Some last
  pub agents : last.agents ≡ map (λ m. m.done) f.machines.items
  pub over : is_over last ≡ true
