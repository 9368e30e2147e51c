-- What a team has found by a legal schedule is right for its files, by whichever of the team's logs it is told.
use Rattle.std.proofs.Common.{◌≡◌, ◌≤◌, ℕ, true, List, [], length, map, All, Some}
use Rattle.std.proofs.Common.{sym, ap, subst, ◌∙◌}
use Rattle.mp_forms.specs.declared.factor.Factor.{Factor}
use Rattle.mp_joint.specs.declared.plan.PlanStep.{PlanStep}
use Rattle.mp_task.specs.Limits.{IsWithinLimits}
use Rattle.mp_ground_laws.specs.Checked.{IsChecked}
use Rattle.mp_machine.specs.AgentRecord.{AgentRecord}
use Rattle.mp_messages.specs.declared.history.Entry.{Entry}
use Rattle.mp_messages.specs.declared.history.Event.{Event}
use Rattle.mp_messages.specs.History.{schedule as schedule_of}
use Rattle.mp_world.specs.declared.answer.Answer.TheVariants.{Nothing}
use Rattle.mp_world.specs.Answers.{answer_of, outcome_of}
use Rattle.mp_world.specs.Events.{run}
use Rattle.mp_world.specs.Logs.{IsLog}
use Rattle.mp_world.specs.RoundRobin.{is_over}
use Rattle.mp_world.specs.Team.{most_expansions, team_with}
use Rattle.mp_world.specs.Values.{Values}
use Rattle.mp_world.specs.World.{World}
use Rattle.mp_split.specs.Team.{AreTasksOf}
use Rattle.mp_split.specs.declared.team.Tasks.{Tasks}
use Rattle.mp_text.specs.Outcome.{found_lines, outcome_text}
use Rattle.mp_text.specs.Lines.{text_of_lines}
use Rattle.mp_outcome.specs.Names.{names_of}
use Rattle.mp_solutions.specs.declared.solution.Solution.{Solution}
use Rattle.mp_solutions.specs.PlanText.{answer_text}
use Rattle.mp_solutions.specs.Right.{IsRight}
use Rattle.mp_solutions.specs.Solution.{IsFound, IsRightFor}
use Rattle.mp_solve.proofs.Finds.{no_answer}

-- the answers of a team are right for its files, as the law has it
abbrev pub AnswersAreRight : Values → Type 0
AnswersAreRight value =
    (team : List Factor) (tasks : Tasks) (limit : ℕ) (schedule : List Event) (last : World)
    → All IsChecked team → 1 ≤ length team → AreTasksOf team tasks
    → All IsWithinLimits tasks.tasks → limit ≤ most_expansions
    → run (team_with value limit tasks.tasks) schedule ≡ Some last → is_over last ≡ true
    → (plan : List PlanStep)
    × IsRight limit team last (answer_of last) plan
    × ((log : List Entry) → outcome_text (outcome_of last) (names_of team tasks.steps) log
    ≡ answer_text (length team) (answer_of last) plan log)

-- before all agents have ended, there is no text
pub no_text : (w : World) (names : List (List PlanStep)) (log : List Entry) → Nothing ≡ answer_of w
    → outcome_text (outcome_of w) names log ≡ []
no_text w names log none =
    ap (λ a. text_of_lines (found_lines a (map (λ (x : AgentRecord). x.share) w.agents) names log)) (sym none)

module _ (value : Values) (limit : ℕ) (team : List Factor) (tasks : Tasks)
    (schedule : List Event) (last : World)
    (law : AnswersAreRight value)
    (checked : All IsChecked team)
    (some : 1 ≤ length team)
    (are : AreTasksOf team tasks)
    (within : All IsWithinLimits tasks.tasks)
    (few_entries : limit ≤ most_expansions)
    (leads : run (team_with value limit tasks.tasks) schedule ≡ Some last)
    (s : Solution) (answer : s.answer ≡ answer_of last)
    (text : s.text ≡ outcome_text (outcome_of last) (names_of team tasks.steps) s.log)
  where
    pub right_for : is_over last ≡ true → IsRightFor value limit team last s
    right_for over =
        let found = law team tasks limit schedule last checked some are within few_entries leads over in
        record {
          plan = found.0;
          right = subst (λ a. IsRight limit team last a found.0) (sym answer) found.1;
          printed = text ∙ found.2 s.log ∙ ap (λ a. answer_text (length team) a found.0 s.log) (sym answer);
        }

    unfoldable pub is_found : s.views ≡ tasks.views → IsLog (team_with value limit tasks.tasks) s.log → schedule_of s.log ≡ schedule
        → IsFound value limit team schedule s
    is_found views is_log logged = record {
      tasks = tasks;
      are_tasks = are;
      views = views;
      last = last;
      leads = leads;
      logged = logged;
      is_log = is_log;
      answer = answer;
      text_is = text;
      right = right_for;
      goes_on = λ over.
          let none = no_answer last over in
          (answer ∙ sym none, text ∙ no_text last (names_of team tasks.steps) s.log none);
    }
