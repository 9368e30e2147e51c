-- What was found is found again by the text of its trace.
use Rattle.std.proofs.Common.{◌≡◌, ◌≤◌, ℕ, List, length, map, All, sym, ap, subst, ◌∙◌}
use Rattle.std.specs.Prelude.{Ok}
use Rattle.mp_forms.specs.declared.factor.Factor.{Factor}
use Rattle.mp_ground_laws.specs.Checked.{IsChecked}
use Rattle.mp_joint.specs.Fact.{Text}
use Rattle.mp_messages.specs.declared.history.Event.{Event}
use Rattle.mp_world.specs.Team.{team_with}
use Rattle.mp_world.specs.Values.{Values}
use Rattle.mp_world.specs.World.{AreNumbered}
use Rattle.mp_world.specs.Logs.{log_of_run}
use Rattle.mp_text.specs.Again.{IsOfTeam, numbered_events}
use Rattle.mp_text.specs.Schedule.{schedule_in}
use Rattle.mp_text.specs.declared.schedule.EventLine.{EventLine}
use Rattle.mp_text.proofs.AgainLemmas.{ended_read, events_read}
use Rattle.mp_solutions.specs.Solution.{IsFound, IsFoundInTurn, IsRefusedLine, IsReplayed}
use Rattle.mp_solutions.specs.declared.solution.Solution.{Solution}
use Rattle.mp_replays.specs.Traces.{IsTraceOf}
use Rattle.mp_replays.specs.Same.{IsFoundAgain}
use Rattle.mp_replays.proofs.Found.{found_again, same_log}
use Rattle.mp_replays.specs.Renamed.{KeepsTasks}
use Rattle.mp_replays.proofs.Logged.{logged_of_team}
use Rattle.mp_replays.proofs.OneTeam.{one_tasks}
use Rattle.mp_replays.proofs.Refused.{no_refusal, one_reading}
use Rattle.mp_replays.proofs.Teams.{one_each, tasks_numbered}

module _ (law : KeepsTasks) (value : Values) (limit : ℕ) (team : List Factor)
    (schedule : List Event) (found : Solution)
    (text : Text) (checked : All IsChecked team) (few : length team ≤ 16) (f : IsFound value limit team schedule found)
    (trace : IsTraceOf found.log text) where
  numbered : AreNumbered f.tasks.tasks
  numbered = tasks_numbered team f.tasks checked f.are_tasks

  log_of_team : All (IsOfTeam (length team)) found.log
  log_of_team =
      subst (λ (n : ℕ). All (IsOfTeam n) found.log) (one_each team f.tasks checked f.are_tasks)
      (logged_of_team value limit f.tasks.tasks numbered found.log f.is_log)

  abbrev again : List EventLine
  again = numbered_events 1 found.log

  read : schedule_in (length team) text ≡ Ok again
  read =
      ap (schedule_in (length team)) trace.text_is
      ∙ ended_read (length team) found.log trace.end trace.later few log_of_team trace.ends

  events : map (λ line. line.event) again ≡ schedule
  events = events_read 1 found.log ∙ f.logged

  pub trace_accepted : (n : ℕ) → IsRefusedLine value limit team text n → ⊥
  trace_accepted n refused =
      no_refusal law value limit team text checked found n again read
      (subst (λ s. IsFound value limit team s found) (sym events) f) refused

  -- the text leads to what was found, where the events happened one after another
  pub trace_replayed : found.log ≡ log_of_run (team_with value limit f.tasks.tasks) schedule → IsReplayed value limit team text found
  trace_replayed logged = record {
    lines = again;
    read = read;
    in_turn =
        subst (λ s. IsFoundInTurn value limit team s found) (sym events) (record { is_found = f; logged = logged });
  }

  module _ (its : Solution) (g : IsReplayed value limit team text its) where
    same : map (λ line. line.event) g.lines ≡ schedule
    same = ap (map (λ line. line.event)) (one_reading law value limit team text checked g.lines again g.read read) ∙ events

    its_turn : IsFoundInTurn value limit team schedule its
    its_turn = subst (λ s. IsFoundInTurn value limit team s its) same g.in_turn

    pub trace_again : IsFoundAgain found its
    trace_again = found_again value limit schedule found its law team checked f its_turn.is_found

    pub log_again : found.log ≡ log_of_run (team_with value limit f.tasks.tasks) schedule → its.log ≡ found.log
    log_again logged =
        same_log value limit schedule found its team team f its_turn.is_found
        (one_tasks law team checked f.tasks its_turn.is_found.tasks f.are_tasks its_turn.is_found.are_tasks)
        logged its_turn.logged
