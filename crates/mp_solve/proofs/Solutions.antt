-- What a team has found whose events happened one after another.
use Rattle.std.proofs.Common.{◌≡◌, ◌≤◌, ℕ, List, length, All, Some}
use Rattle.std.proofs.Common.{sym, ap, subst, ◌∙◌}
use Rattle.std.specs.Prelude.{IfOk, Result, Ok, Err}
use Rattle.mp_forms.specs.declared.factor.Factor.{Factor}
use Rattle.mp_ground_laws.specs.Checked.{IsChecked}
use Rattle.mp_messages.specs.declared.history.Event.{Event}
use Rattle.mp_messages.specs.History.{schedule as schedule_of}
use Rattle.mp_world.specs.Answers.{answer_of, outcome_of}
use Rattle.mp_world.specs.Events.{run}
use Rattle.mp_world.specs.Logs.{IsLog, log_of_run}
use Rattle.mp_world.specs.Team.{AreTeamTasks, most_expansions, team_with}
use Rattle.mp_world.specs.Values.{Values}
use Rattle.mp_world.specs.World.{AreNumbered}
use Rattle.mp_world.proofs.Agents.{agree_numbered}
use Rattle.mp_world.proofs.LogOfRun.{run_log_is_log, run_log_schedule}
use Rattle.mp_schedule.specs.TeamRun.{TeamRun}
use Rattle.mp_split.specs.Team.{AreTasksOf}
use Rattle.mp_split.specs.declared.team.Tasks.{Tasks}
use Rattle.mp_text.specs.Outcome.{outcome_text}
use Rattle.mp_outcome.specs.Names.{names_of}
use Rattle.mp_solutions.specs.declared.solution.Solution.{Solution}
use Rattle.mp_solutions.specs.Solution.{IsFound, IsFoundInTurn, IsSolution}
use Rattle.mp_solve.specs.Ended.{HasDoneAll, HasEnded}
use Rattle.mp_solve.proofs.Found.{AnswersAreRight, is_found}

module _ (value : Values) (limit : ℕ) (team : List Factor) (tasks : Tasks)
    (schedule : List Event) (r : TeamRun)
    (law : AnswersAreRight value)
    (checked : All IsChecked team)
    (some : 1 ≤ length team)
    (are : AreTasksOf team tasks)
    (few_entries : limit ≤ most_expansions)
    (done : HasDoneAll (team_with value limit tasks.tasks) schedule r)
  where
    leads : run (team_with value limit tasks.tasks) schedule ≡ Some r.world
    leads =
        sym (λ i. run (team_with value (done.limit_is i) (done.tasks_are i)) (done.schedule_is i)) ∙ done.run.leads

    logged : r.log ≡ log_of_run (team_with value limit tasks.tasks) schedule
    logged =
        done.run.logged ∙ (λ i. log_of_run (team_with value (done.limit_is i) (done.tasks_are i)) (done.schedule_is i))

    team_tasks : AreTeamTasks tasks.tasks
    team_tasks = subst AreTeamTasks done.tasks_are done.team.tasks

    numbered : AreNumbered tasks.tasks
    numbered = agree_numbered tasks.tasks team_tasks.agree

    is_log : IsLog (team_with value limit tasks.tasks) (log_of_run (team_with value limit tasks.tasks) schedule)
    is_log = run_log_is_log value tasks.tasks numbered limit schedule r.world leads

    module _ (s : Solution) (answer : s.answer ≡ answer_of r.world) (log : s.log ≡ r.log)
        (text : s.text ≡ outcome_text (outcome_of r.world) (names_of team tasks.steps) r.log)
        (views : s.views ≡ tasks.views)
      where
        whole : s.log ≡ log_of_run (team_with value limit tasks.tasks) schedule
        whole = log ∙ logged

        found : IsFound value limit team schedule s
        found =
            is_found value limit team tasks schedule r.world law checked some are
            team_tasks.within few_entries leads s answer
            (text ∙ ap (λ l. outcome_text (outcome_of r.world) (names_of team tasks.steps) l) (sym log))
            views
            (subst (IsLog (team_with value limit tasks.tasks)) (sym whole) is_log)
            (ap schedule_of whole ∙ run_log_schedule value tasks.tasks numbered limit schedule r.world leads)

        pub found_in_turn : IsFoundInTurn value limit team schedule s
        unfolding is_found found
        found_in_turn = record { is_found = found; logged = whole }

-- what was found by round robin
pub if_solution : (value : Values) (limit : ℕ) (team : List Factor) (tasks : Tasks)
    (r : TeamRun)
    → AnswersAreRight value → All IsChecked team → 1 ≤ length team → AreTasksOf team tasks → limit ≤ most_expansions
    → HasEnded (team_with value limit tasks.tasks) r
    → {E : Type 0} (found : Result Solution E) → IfOk found (λ s. s.views ≡ tasks.views)
    → IfOk found (λ s. s.log ≡ r.log) → IfOk found (λ s. s.answer ≡ answer_of r.world)
    → IfOk found (λ s. s.text ≡ outcome_text (outcome_of r.world) (names_of team tasks.steps) r.log)
    → IfOk found (IsSolution value limit team)
unfolding is_found found found_in_turn
if_solution value limit team tasks r law checked some are few ended (Ok s) views log answer text =
    record {
      schedule = r.schedule;
      in_turn = found_in_turn value limit team tasks r.schedule r law checked some are few ended.done s answer log text
          views;
      round_robin = ended.round_robin;
    }
if_solution value limit team tasks r law checked some are few ended (Err e) views log answer text = tt
