-- The run of a team goes on by one event.
use Rattle.std.proofs.Common.{◌≡◌, List, [], ◌∷◌, ◌++◌, length, Option, Some, None, refl, sym, ap, subst, ◌∙◌}
use Rattle.std.proofs.Common.{append_assoc, append-nil, ◌≤◌}
use Rattle.std.specs.Option.{option_and_then, option_map_or}
use Rattle.std.proofs.lemmas.List.Elements.{filter_map-append}
use Rattle.std.proofs.lemmas.Option.{same_Some}
use Rattle.mp_runs.specs.Run.{run as run_of}
use Rattle.mp_runs.proofs.Runs.{run-more, run-none, run_parts}
use Rattle.mp_messages.specs.declared.history.Event.{Event}
use Rattle.mp_messages.specs.declared.history.Entry.{Entry}
use Rattle.mp_messages.specs.History.{event_of, schedule as schedule_of}
use Rattle.mp_world.specs.Events.{after_event, local_step, sent_in, taken}
use Rattle.mp_world.specs.Logs.{entries_if_good, entries_of, log_after, log_from}
use Rattle.mp_world.specs.Team.{AreTeamTasks, most_expansions, team_with}
use Rattle.mp_world.specs.Values.{Values}
use Rattle.mp_world.specs.World.{World, start_world}
use Rattle.mp_world.proofs.Entries.{entries_schedule}
use Rattle.mp_world.proofs.Stepping.{stepped}
use Rattle.mp_schedule.specs.Happening.{HasHappened}
use Rattle.mp_schedule.specs.TeamRun.{IsLogged, IsSameTeam, MayRun, TeamRun, team_in}

-- what is so of a team is so of the same team
pub team_again : (old new : TeamRun) → IsSameTeam old new → MayRun old → MayRun new
team_again old new same is = record {
  tasks = subst AreTeamTasks (sym same.tasks) is.tasks;
  most = subst (λ n. n ≤ most_expansions) (sym same.limit) is.most;
  from_1 = subst (λ ts. 1 ≤ length ts) (sym same.tasks) is.from_1;
  at_most = subst (λ ts. length ts ≤ 16) (sym same.tasks) is.at_most;
}

module _ (value : Values) where
  -- the log of a run with one event more
  log_of_one : (w : World) (event : Event) → log_from value w (event ∷ []) ≡ log_after value w event
  unfolding log_from
  log_of_one w event = ap (λ es. log_after value w event ++ es) (nothing (after_event value w event))
      ∙ append-nil (log_after value w event)
    where
      nothing : (o : Option World) → option_map_or (λ next. log_from value next []) o [] ≡ []
      nothing None = refl
      nothing (Some next) = refl

  log_of_first : (w next : World) (event : Event) (events : List Event) → after_event value w event ≡ Some next
      → log_from value w (event ∷ events) ≡ log_after value w event ++ log_from value next events
  unfolding log_from
  log_of_first w next event events leads = ap (λ o. log_after value w event ++ option_map_or
      (λ v. log_from value v events) o []) leads

  pub log_of_none : (w : World) → log_from value w [] ≡ []
  unfolding log_from
  log_of_none w = refl

  log_more : (events : List Event) (event : Event) (w last : World) → run_of (after_event value) w events ≡ Some last
      → log_from value w (events ++ event ∷ []) ≡ log_from value w events ++ log_after value last event
  log_more [] event w last ran =
      let same : w ≡ last = same_Some w last (sym (run-none (after_event value) w) ∙ ran) in
      log_of_one w event ∙ ap (λ v. log_after value v event) same
      ∙ ap (λ es. es ++ log_after value last event) (sym (log_of_none w))
  log_more (e ∷ events) event w last ran =
      let parts = run_parts (after_event value) w last e events ran in
      log_of_first w parts.0 e (events ++ event ∷ []) parts.1
      ∙ ap (λ es. log_after value w e ++ es) (log_more events event parts.0 last parts.2)
      ∙ sym (append_assoc (log_after value w e) (log_from value parts.0 events) (log_after value last event))
      ∙ ap (λ es. es ++ log_after value last event) (sym (log_of_first w parts.0 e events parts.1))

  -- the schedule of a log with the entries of one event more
  pub schedule_more : (w next : World) (event : Event) (log : List Entry) → after_event value w event ≡ Some next
      → schedule_of (log ++ log_after value w event) ≡ schedule_of log ++ event ∷ []
  schedule_more w next event log leads =
      let s = stepped value w event next leads in
      let entries : log_after value w event ≡ entries_of event (taken w event) (sent_in s.step) =
      ap (λ o. option_map_or (λ r. entries_if_good value w event (local_step value w event r)) o []) s.there
      ∙ ap (entries_if_good value w event) s.local in
      filter_map-append event_of log (log_after value w event)
      ∙ ap (λ es. schedule_of log ++ schedule_of es) entries
      ∙ ap (λ es. schedule_of log ++ es) (entries_schedule event (taken w event) (sent_in s.step))

  -- the run goes on
  pub run_again : (old new : TeamRun) (event : Event) → IsSameTeam old new → IsLogged value old
      → HasHappened value old event new → IsLogged value new
  run_again old new event same is happened =
      let first : World = start_world (team_in value old) in
      let start : start_world (team_in value new) ≡ first = λ i. start_world (team_with value (same.limit i)
      (same.tasks i)) in
      record {
        leads =
            (λ i. run_of (after_event value) (start i) (happened.appended i))
            ∙ run-more (after_event value) first old.schedule event
            ∙ ap (option_and_then (λ t. after_event value t event)) is.leads
            ∙ happened.leads;
        logged =
            happened.logged ∙ ap (λ es. es ++ log_after value old.world event) is.logged
            ∙ sym (log_more old.schedule event first old.world is.leads)
            ∙ sym (λ i. log_from value (start i) (happened.appended i));
      }
