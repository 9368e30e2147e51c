-- A team: what its agents begin with.
use Rattle.std.specs.Prelude.{◌≤◌, ℕ, List}
use Rattle.mp_task.specs.AgentTask.{AgentTask}
pub use Rattle.mp_task.specs.Agreement.{AreTeamTasks}
pub use Rattle.mp_task.specs.Limits.{most_expansions}
use Rattle.mp_task.specs.Values.{Values}

-- the tasks of its agents, agent 1 first, the values of its heuristic, and how many entries each agent may expand
pub record Team : Type 0 where
  pub tasks : List AgentTask
  pub value : Values
  pub limit : ℕ

abbrev pub team_with : Values → ℕ → List AgentTask → Team
team_with value limit tasks = record { tasks = tasks; value = value; limit = limit }

-- A team that may run.
pub record IsTeam (team : Team) : Type 0 where
  pub tasks : AreTeamTasks team.tasks
  pub most : team.limit ≤ most_expansions
