-- The machines of a team, and how they make a run.
use Rattle.std.specs.Prelude.{◌≡◌, ◌≤◌, ℕ, Bool, false, List, [], ◌∷◌, length, map, All, None}
use Rattle.mp_task.specs.AgentTask.{AgentTask}
use Rattle.mp_messages.specs.declared.history.Entry.{Entry}
use Rattle.mp_messages.specs.History.{schedule as schedule_of}
use Rattle.mp_machine.specs.AgentRecord.{new_record}
use Rattle.mp_machine.specs.Machine.{AgentMachine}
use Rattle.mp_world.specs.Team.{AreTeamTasks, most_expansions}
use Rattle.mp_world.specs.Values.{Values}
use Rattle.mp_world.specs.World.{World}
use Rattle.mp_schedule.specs.TeamRun.{IsLogged, MayRun, TeamRun}
use Rattle.mp_schedule.specs.UnderWay.{Mail, world_with}

abbrev pub tasks_of : List AgentMachine → List AgentTask
tasks_of machines = map (λ m. m.done.task) machines

-- how many entries the first agent may expand
abbrev pub limit_of : List AgentMachine → ℕ
limit_of [] = 0
limit_of (m ∷ others) = m.done.limit

-- a machine that steps have not stopped
abbrev pub IsFree : AgentMachine → Type 0
IsFree m = m.stopped ≡ None

-- a machine that has done nothing yet
abbrev pub new_machine : Values → ℕ → AgentTask → AgentMachine
new_machine value limit t = record { done = new_record t (value t) limit; stopped = None }

-- new machines of a team whose tasks agree and are within the limits, and all of which may expand as many entries
pub record AreNew (value : Values) (machines : List AgentMachine) : Type 0 where
  pub new : All (λ m. m ≡ new_machine value (limit_of machines) m.done.task) machines
  pub tasks : AreTeamTasks (tasks_of machines)
  pub most : limit_of machines ≤ most_expansions
  pub from_1 : 1 ≤ length machines
  pub at_most : length machines ≤ 16

-- the world that machines and the messages between them make
abbrev pub world_of : List AgentMachine → Mail → World
world_of machines mail = world_with (map (λ m. m.done) machines) mail

-- the run that they make, with a log
abbrev pub team_run : List AgentMachine → Mail → List Entry → Bool → TeamRun
team_run machines mail log failed = record {
  tasks = tasks_of machines;
  limit = limit_of machines;
  schedule = schedule_of log;
  world = world_of machines mail;
  log = log;
  failed = failed;
}

-- machines that go on
pub record IsGoing
    (value : Values)
    (machines : List AgentMachine)
    (mail : Mail)
    (log : List Entry)
    : Type 0 where
  pub free : All IsFree machines
  pub run : IsLogged value (team_run machines mail log false)

pub record AreOneRun
    (value : Values)
    (machines : List AgentMachine)
    (mail : Mail)
    (log : List Entry)
    (failed : Bool)
    : Type 0 where
  pub team : MayRun (team_run machines mail log failed)
  pub going : failed ≡ false → IsGoing value machines mail log
