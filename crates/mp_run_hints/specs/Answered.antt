-- What a team has answered that has run until all agents had ended.
use Rattle.std.specs.Prelude.{◌≡◌, ℕ, true, List, Some}
use Rattle.mp_hmax.specs.Hmax.{hmax}
use Rattle.mp_lmcut.specs.Cut.{lmcut}
use Rattle.mp_pdb.specs.Pattern.{pattern_value}
use Rattle.mp_team_states.specs.Expansions.{nothing_known}
use Rattle.mp_words.specs.declared.asked.Choice.{Choice}
use Rattle.mp_words.specs.declared.asked.Choice.TheVariants.{Blind, Max, Cut, Pdb}
use Rattle.mp_forms.specs.declared.factor.Factor.{Factor}
use Rattle.mp_joint.specs.declared.plan.PlanStep.{PlanStep}
use Rattle.mp_messages.specs.declared.history.Event.{Event}
use Rattle.mp_task.specs.AgentTask.{AgentTask}
use Rattle.mp_world.specs.Answers.{answer_of}
use Rattle.mp_world.specs.Events.{run}
use Rattle.mp_world.specs.RoundRobin.{is_over}
use Rattle.mp_world.specs.Team.{team_with}
use Rattle.mp_world.specs.Values.{Values}
use Rattle.mp_world.specs.World.{World}
use Rattle.mp_world.specs.declared.answer.Answer.{Answer}
use Rattle.mp_split.specs.Team.{AreTasksOf}
use Rattle.mp_split.specs.declared.team.Tasks.{Tasks}
use Rattle.mp_solutions.specs.Right.{IsRight}

-- the values of a heuristic: for each task, and for each set of public and of private facts
abbrev pub values_of : Choice → Values
values_of Blind = nothing_known
values_of Max = hmax
values_of Cut = lmcut
values_of Pdb = pattern_value

module _ (value : Values) (limit : ℕ) where
  -- the answer of agents with these tasks after a legal schedule, at the end of which all have ended
  pub record IsAnswerOf (tasks : List AgentTask) (answer : Answer) : Type 0 where
    pub schedule : List Event
    pub last : World
    pub leads : run (team_with value limit tasks) schedule ≡ Some last
    pub over : is_over last ≡ true
    pub is : answer ≡ answer_of last

  -- the answer of agents with the tasks of these files, which is right for the files
  pub record IsAnswered (team : List Factor) (answer : Answer) : Type 0 where
    pub tasks : Tasks
    pub are_tasks : AreTasksOf team tasks
    pub answers : IsAnswerOf tasks.tasks answer
    pub plan : List PlanStep
    pub right : IsRight limit team answers.last answer plan
