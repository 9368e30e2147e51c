-- What the agents of a team find after a legal schedule, and the text that tells it.
use Rattle.std.specs.Prelude.{◌≡◌, ◌⊎◌, ℕ, Bool, true, false, List, [], ◌∷◌, ◌++◌, map, length, Some, Ok, Err}
use Rattle.mp_forms.specs.declared.factor.Factor.{Factor}
use Rattle.mp_joint.specs.Fact.{Text}
use Rattle.mp_joint.specs.declared.plan.PlanStep.{PlanStep}
use Rattle.mp_messages.specs.declared.history.Event.{Event}
use Rattle.mp_messages.specs.History.{schedule as schedule_of}
use Rattle.mp_world.specs.Answers.{answer_of, outcome_of}
use Rattle.mp_world.specs.Events.{is_legal, run}
use Rattle.mp_world.specs.Logs.{IsLog, log_of_run}
use Rattle.mp_world.specs.RoundRobin.{IsRoundRobin, is_over}
use Rattle.mp_world.specs.Team.{Team, team_with}
use Rattle.mp_world.specs.Values.{Values}
use Rattle.mp_world.specs.World.{World, start_world}
use Rattle.mp_world.specs.declared.answer.Answer.TheVariants.{Nothing}
use Rattle.mp_outcome.specs.Names.{names_of}
use Rattle.mp_split.specs.Team.{AreTasksOf}
use Rattle.mp_split.specs.declared.team.Tasks.{Tasks}
use Rattle.mp_text.specs.Outcome.{outcome_text}
use Rattle.mp_text.specs.Schedule.{schedule_in}
use Rattle.mp_text.specs.declared.schedule.EventLine.{EventLine}
use Rattle.mp_solutions.specs.declared.solution.Solution.{Solution}
use Rattle.mp_solutions.specs.PlanText.{answer_text}
use Rattle.mp_solutions.specs.Right.{IsRight}

-- the events of these lines lead a team up to that of the line of this number, which may not happen then
pub record StopsAt (team : Team) (lines : List EventLine) (number : ℕ) : Type 0 where
  pub before : List EventLine
  pub line : EventLine
  pub later : List EventLine
  pub lines_are : lines ≡ before ++ line ∷ later
  pub last : World
  pub leads : run team (map (λ line. line.event) before) ≡ Some last
  pub illegal : is_legal last line.event ≡ false
  pub numbered : line.line ≡ number

module _
    (value : Values)
    (limit : ℕ)
    (team : List Factor)
  where
    -- an answer is right for the files, and a text tells it, with a plan where there is one, and the counts of the log
    pub record IsRightFor (last : World) (found : Solution) : Type 0 where
      pub plan : List PlanStep
      pub right : IsRight limit team last found.answer plan
      pub printed : found.text ≡ answer_text (length team) found.answer plan found.log

    -- This was found for the files of a team, where each agent may expand so many entries, by a schedule: the agents have
    -- the tasks of the files, the schedule is legal for them, and the log is one of the team with this schedule; where the
    -- messages stand in it between entries of other agents is open. The text tells the agents' shares by the names that
    -- their actions stand for. Once all agents have ended, the answer is right for the files; before, there is no answer,
    -- and no text.
    pub record IsFound (schedule : List Event) (found : Solution) : Type 0 where
      pub tasks : Tasks
      pub are_tasks : AreTasksOf team tasks
      pub views : found.views ≡ tasks.views
      pub last : World
      pub leads : run (team_with value limit tasks.tasks) schedule ≡ Some last
      pub is_log : IsLog (team_with value limit tasks.tasks) found.log
      pub logged : schedule_of found.log ≡ schedule
      pub answer : found.answer ≡ answer_of last
      pub text_is : found.text ≡ outcome_text (outcome_of last) (names_of team tasks.steps) found.log
      pub right : is_over last ≡ true → IsRightFor last found
      pub goes_on : is_over last ≡ false → (found.answer ≡ Nothing) × (found.text ≡ [])

    -- This was found by a schedule whose events happened one after another: the log is that of its run, in which each
    -- message stands directly behind the event that sent it.
    pub record IsFoundInTurn (schedule : List Event) (found : Solution) : Type 0 where
      pub is_found : IsFound schedule found
      pub logged : found.log ≡ log_of_run (team_with value limit is_found.tasks.tasks) schedule

    -- this was found by round robin, until all agents had ended
    pub record IsSolution (found : Solution) : Type 0 where
      pub schedule : List Event
      pub in_turn : IsFoundInTurn schedule found
      pub round_robin :
          IsRoundRobin value (start_world (team_with value limit in_turn.is_found.tasks.tasks)) schedule in_turn.is_found.last

    -- this was found by some legal schedule, at the end of which all agents had ended
    pub record IsFoundToEnd (found : Solution) : Type 0 where
      pub schedule : List Event
      pub is_found : IsFound schedule found
      pub over : is_over is_found.last ≡ true

    -- on one thread alone this was found by round robin, and otherwise by some schedule, until all agents had ended
    abbrev pub IsFoundOn : Bool → Solution → Type 0
    IsFoundOn true found = IsSolution found
    IsFoundOn false found = IsFoundToEnd found

    -- this was found by the schedule that a text has
    pub record IsReplayed (text : Text) (found : Solution) : Type 0 where
      pub lines : List EventLine
      pub read : schedule_in (length team) text ≡ Ok lines
      pub in_turn : IsFoundInTurn (map (λ line. line.event) lines) found

    -- the schedule that a text has stops short at a line
    pub record MayNotHappen (text : Text) (number : ℕ) : Type 0 where
      pub tasks : Tasks
      pub are_tasks : AreTasksOf team tasks
      pub lines : List EventLine
      pub read : schedule_in (length team) text ≡ Ok lines
      pub stops : StopsAt (team_with value limit tasks.tasks) lines number

    -- The line of this number of a schedule's text is refused: it is the first that is neither of an event nor of a
    -- message, or, where there is none, the line of the first event that may not happen.
    abbrev pub IsRefusedLine : Text → ℕ → Type 0
    IsRefusedLine text number = (schedule_in (length team) text ≡ Err number) ⊎ MayNotHappen text number
