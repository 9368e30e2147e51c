-- What teams have answered is right for their files.
use Rattle.std.proofs.Common.{◌≡◌, ◌≤◌, ℕ, true, List, length, map, All, sym, subst}
use Rattle.mp_forms.specs.declared.factor.Factor.{Factor}
use Rattle.mp_ground_laws.specs.Checked.{IsChecked}
use Rattle.mp_machine.specs.Machine.{AgentMachine}
use Rattle.mp_task.specs.Limits.{IsWithinLimits}
use Rattle.mp_world.specs.Answers.{answer_of}
use Rattle.mp_world.specs.RoundRobin.{is_over}
use Rattle.mp_world.specs.Team.{most_expansions}
use Rattle.mp_world.specs.Values.{Values}
use Rattle.mp_world.specs.declared.answer.Answer.{Answer}
use Rattle.mp_split.specs.Team.{AreTasksOf}
use Rattle.mp_split.specs.declared.team.Tasks.{Tasks}
use Rattle.mp_schedule.specs.Finished.{AreOfRun}
use Rattle.mp_schedule.specs.TeamRun.{IsLogged, MayRun, TeamRun}
use Rattle.mp_schedule.proofs.Keeping.{is_run_of}
use Rattle.mp_solutions.specs.Right.{IsRight}
use Rattle.mp_solve.proofs.Found.{AnswersAreRight}
use Rattle.mp_run_hints.specs.Answered.{IsAnswerOf, IsAnswered}

-- the machines of a team that has run
pub are_of_run : (value : Values) (r : TeamRun) → MayRun r → IsLogged value r
    → (machines : List AgentMachine) → map (λ m. m.done) machines ≡ r.world.agents → AreOfRun value machines
are_of_run value r team ran machines agents = record {
  limit = r.limit;
  tasks = r.tasks;
  schedule = r.schedule;
  last = r.world;
  run = is_run_of value r team ran;
  agents = sym agents;
}

-- its answer, once all agents have ended
pub has_answered : (value : Values) (r : TeamRun) → IsLogged value r → is_over r.world ≡ true
    → (answer : Answer) → answer ≡ answer_of r.world → IsAnswerOf value r.limit r.tasks answer
has_answered value r ran over answer is = record {
  schedule = r.schedule;
  last = r.world;
  leads = ran.leads;
  over = over;
  is = is;
}

-- it is right for the files
pub is_answered : (value : Values) (limit : ℕ) (team : List Factor) (tasks : Tasks)
    → AnswersAreRight value → All IsChecked team → 1 ≤ length team → AreTasksOf team tasks
    → All IsWithinLimits tasks.tasks → limit ≤ most_expansions
    → (answer : Answer) → IsAnswerOf value limit tasks.tasks answer → IsAnswered value limit team answer
is_answered value limit team tasks law checked some are within few answer answered =
    let found = law team tasks limit answered.schedule answered.last checked some are within few answered.leads answered.over in
    record {
      tasks = tasks;
      are_tasks = are;
      answers = answered;
      plan = found.0;
      right = subst (λ a. IsRight limit team answered.last a found.0) (sym answered.is) found.1;
    }
