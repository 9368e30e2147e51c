-- A team that runs, as contracts see it: what has happened, and what it has led to.
use Rattle.std.specs.Prelude.{◌≡◌, ◌≤◌, ℕ, Bool, false, List, [], ◌++◌, length, Some}
use Rattle.mp_task.specs.AgentTask.{AgentTask}
use Rattle.mp_messages.specs.declared.history.Entry.{Entry}
use Rattle.mp_messages.specs.declared.history.Event.{Event}
use Rattle.mp_world.specs.Events.{run}
use Rattle.mp_world.specs.Logs.{log_of_run}
use Rattle.mp_world.specs.Team.{AreTeamTasks, Team, most_expansions, team_with}
use Rattle.mp_world.specs.Values.{Values}
use Rattle.mp_world.specs.World.{World, start_world}

pub record TeamRun : Type 0 where
  -- the tasks of the agents, agent 1 first
  pub tasks : List AgentTask
  -- how many entries each agent may expand
  pub limit : ℕ
  -- the events that have happened, in their order
  pub schedule : List Event
  -- what the agents have done, and the messages that are under way
  pub world : World
  -- each event, and behind it the messages that went out
  pub log : List Entry
  -- memory ran out, and nothing is known of schedule, world and log
  pub failed : Bool

-- its team, where the heuristic has such values
abbrev pub team_in : Values → TeamRun → Team
team_in value r = team_with value r.limit r.tasks

-- the world is the one that the schedule leads to, and the log is that of its run
pub record IsLogged (value : Values) (r : TeamRun) : Type 0 where
  pub leads : run (team_in value r) r.schedule ≡ Some r.world
  pub logged : r.log ≡ log_of_run (team_in value r) r.schedule

-- a team that may run, of 1 to 16 agents
pub record MayRun (r : TeamRun) : Type 0 where
  pub tasks : AreTeamTasks r.tasks
  pub most : r.limit ≤ most_expansions
  pub from_1 : 1 ≤ length r.tasks
  pub at_most : length r.tasks ≤ 16

-- it is still the same team
pub record IsSameTeam (old new : TeamRun) : Type 0 where
  pub tasks : new.tasks ≡ old.tasks
  pub limit : new.limit ≡ old.limit

-- a team at the start
abbrev pub start_run : Values → ℕ → List AgentTask → TeamRun
start_run value limit tasks = record {
  tasks = tasks;
  limit = limit;
  schedule = [];
  world = start_world (team_with value limit tasks);
  log = [];
  failed = false;
}

-- A part of a schedule was done from one point of a run to another.
pub record HasDone
    (Part : World → List Event → World → Type 0)
    (old new : TeamRun)
    : Type 0 where
  pub events : List Event
  pub done : Part old.world events new.world
  pub appended : new.schedule ≡ old.schedule ++ events
  pub same : IsSameTeam old new
  pub kept : new.failed ≡ old.failed
