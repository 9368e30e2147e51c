-- What is found by one schedule is one thing.
use Rattle.std.proofs.Common.{◌≡◌, ℕ, List, Some, All, sym, ap, subst, ◌∙◌}
use Rattle.std.proofs.lemmas.Option.{same_Some}
use Rattle.mp_forms.specs.declared.factor.Factor.{Factor}
use Rattle.mp_ground_laws.specs.Checked.{IsChecked}
use Rattle.mp_messages.specs.declared.history.Event.{Event}
use Rattle.mp_messages.specs.History.{schedule as schedule_of}
use Rattle.mp_world.specs.Answers.{answer_of, outcome_of}
use Rattle.mp_world.specs.Events.{run}
use Rattle.mp_world.specs.Logs.{IsLog, log_of_run}
use Rattle.mp_world.specs.Team.{team_with}
use Rattle.mp_world.specs.Values.{Values}
use Rattle.mp_world.specs.World.{AreNumbered}
use Rattle.mp_logs.proofs.OneSchedule.{logs_alike}
use Rattle.mp_outcome.specs.Names.{names_of}
use Rattle.mp_split.specs.Team.{AreTasksOf}
use Rattle.mp_split.specs.declared.team.Tasks.{Tasks}
use Rattle.mp_text.specs.Outcome.{outcome_text}
use Rattle.mp_text.proofs.SameLemmas.{tell_the_same}
use Rattle.mp_solutions.specs.Solution.{IsFound, IsFoundInTurn}
use Rattle.mp_solutions.specs.declared.solution.Solution.{Solution}
use Rattle.mp_stands.specs.Renaming.{Renaming}
use Rattle.mp_stands.specs.Team.{IsRenamedTeam}
use Rattle.mp_replays.specs.Renamed.{KeepsTasks}
use Rattle.mp_replays.specs.Same.{AreSameSearches, IsFoundAgain}
use Rattle.mp_replays.proofs.OneTeam.{one_names, one_tasks, one_views}
use Rattle.mp_replays.proofs.Teams.{tasks_numbered}

module _ (value : Values) (limit : ℕ) (schedule : List Event)
    (found its : Solution) where
  -- two teams with the same tasks
  module _ (team other : List Factor) (f : IsFound value limit team schedule found)
      (g : IsFound value limit other schedule its)
      (same : g.tasks.tasks ≡ f.tasks.tasks) where
    pub same_world : g.last ≡ f.last
    same_world = same_Some g.last f.last
        (sym (subst (λ ts. run (team_with value limit ts) schedule ≡ Some g.last) same g.leads) ∙ f.leads)

    -- the logs are equal where the events of both happened one after another
    pub same_log : found.log ≡ log_of_run (team_with value limit f.tasks.tasks) schedule
        → its.log ≡ log_of_run (team_with value limit g.tasks.tasks) schedule → its.log ≡ found.log
    same_log first second = second ∙ ap (λ ts. log_of_run (team_with value limit ts) schedule) same ∙ sym first

    pub same_answer : its.answer ≡ found.answer
    same_answer = g.answer ∙ ap answer_of same_world ∙ sym f.answer

    module _ (numbered : AreNumbered f.tasks.tasks) where
      other_log : IsLog (team_with value limit f.tasks.tasks) its.log
      other_log = subst (λ ts. IsLog (team_with value limit ts) its.log) same g.is_log

      one_schedule : schedule_of its.log ≡ schedule_of found.log
      one_schedule = g.logged ∙ sym f.logged

      pub same_search : AreSameSearches found its
      same_search = record {
        alike = logs_alike (team_with value limit f.tasks.tasks) numbered found.log its.log f.is_log other_log one_schedule;
        texts = tell_the_same (team_with value limit f.tasks.tasks) numbered found.log its.log f.is_log other_log one_schedule;
        answer = same_answer;
      }

  -- one team
  module _ (law : KeepsTasks) (team : List Factor) (checked : All IsChecked team)
      (f : IsFound value limit team schedule found) (g : IsFound value limit team schedule its) where
    tasks : g.tasks.tasks ≡ f.tasks.tasks
    tasks = one_tasks law team checked f.tasks g.tasks f.are_tasks g.are_tasks

    numbered : AreNumbered f.tasks.tasks
    numbered = tasks_numbered team f.tasks checked f.are_tasks

    search : AreSameSearches found its
    search = same_search team team f g tasks numbered

    same_text : its.text ≡ found.text
    same_text =
        let last = same_world team team f g tasks in
        let names = one_names law team checked f.tasks g.tasks f.are_tasks g.are_tasks in
        g.text_is ∙ (λ i. outcome_text (outcome_of (last i)) (names i) its.log)
        ∙ search.texts.outcomes (outcome_of f.last) (names_of team f.tasks.steps) ∙ sym f.text_is

    pub found_again : IsFoundAgain found its
    found_again = record {
      search = search;
      text = same_text;
      views = g.views ∙ one_views law team checked f.tasks g.tasks f.are_tasks g.are_tasks ∙ sym f.views;
    }

-- ---- one agent renames

module _ (law : KeepsTasks) (value : Values) (limit place : ℕ) (r : Renaming)
    (team other : List Factor)
    (schedule : List Event) (found : Solution) where
  pub views_stay : (u : Tasks) → All IsChecked team → All IsChecked other → IsRenamedTeam place r team other
      → IsFound value limit team schedule found → AreTasksOf other u → u.views ≡ found.views
  views_stay u checked also renamed f of = law.views place r team other f.tasks u checked also renamed f.are_tasks of
      ∙ sym f.views

  pub log_stays : (u : Tasks) → All IsChecked team → All IsChecked other → IsRenamedTeam place r team other
      → IsFound value limit team schedule found → AreTasksOf other u → IsLog (team_with value limit u.tasks) found.log
  log_stays u checked also renamed f of =
      subst (λ ts. IsLog (team_with value limit ts) found.log)
      (sym (law.tasks place r team other f.tasks u checked also renamed f.are_tasks of)) f.is_log

  module _ (its : Solution) (checked : All IsChecked team) (also : All IsChecked other)
      (renamed : IsRenamedTeam place r team other) where
    tasks_stay : (f : IsFound value limit team schedule found) (g : IsFound value limit other schedule its)
        → g.tasks.tasks ≡ f.tasks.tasks
    tasks_stay f g = law.tasks place r team other f.tasks g.tasks checked also renamed f.are_tasks g.are_tasks

    pub messages_stay : IsFound value limit team schedule found → IsFound value limit other schedule its
        → AreSameSearches found its
    messages_stay f g =
        same_search value limit schedule found its team other f g (tasks_stay f g)
        (tasks_numbered team f.tasks checked f.are_tasks)

    pub log_is_one : IsFoundInTurn value limit team schedule found → IsFoundInTurn value limit other schedule its
        → its.log ≡ found.log
    log_is_one f g =
        same_log value limit schedule found its team other f.is_found g.is_found (tasks_stay f.is_found g.is_found)
        f.logged g.logged
