-- What workers have found was found by a schedule at the end of which all agents had ended.
use Rattle.std.proofs.Common.{◌≡◌, ◌≤◌, ℕ, true, false, List, length, map, All, Some, sym, ap, subst, ◌∙◌}
use Rattle.std.specs.Prelude.{IfErr, IfOk, OnOk, Result, Ok, Err}
use Rattle.mp_forms.specs.declared.factor.Factor.{Factor}
use Rattle.mp_task.specs.AgentTask.{AgentTask}
use Rattle.mp_task.specs.Limits.{IsWithinLimits}
use Rattle.mp_ground_laws.specs.Checked.{IsChecked}
use Rattle.mp_machine.specs.Machine.{AgentMachine}
use Rattle.mp_messages.specs.declared.history.Entry.{Entry}
use Rattle.mp_messages.specs.History.{schedule as schedule_of}
use Rattle.mp_outcome.specs.Names.{names_of}
use Rattle.mp_schedule.specs.Finished.{AreOfRun}
use Rattle.mp_schedule.specs.Machines.{limit_of, tasks_of}
use Rattle.mp_solutions.specs.Solution.{IsFoundOn, IsFoundToEnd, IsSolution}
use Rattle.mp_solutions.proofs.ToEnd.{on_any}
use Rattle.mp_solutions.specs.declared.solution.Solution.{Solution}
use Rattle.mp_grounder.specs.declared.refusal.GroundRefusal.{GroundRefusal}
use Rattle.mp_solve.specs.Refused.{AreWithin}
use Rattle.mp_solve.proofs.Found.{AnswersAreRight, is_found}
use Rattle.mp_split.specs.Team.{AreTasksOf, IsFirstRefusal}
use Rattle.mp_split.specs.declared.team.Tasks.{Tasks}
use Rattle.mp_text.specs.Outcome.{outcome_text}
use Rattle.mp_world.specs.Answers.{answer_of, outcome_of}
use Rattle.mp_world.specs.Events.{run}
use Rattle.mp_world.specs.Logs.{IsLog}
use Rattle.mp_world.specs.RoundRobin.{is_over}
use Rattle.mp_world.specs.Team.{AreTeamTasks, most_expansions, team_with}
use Rattle.mp_world.specs.Values.{Values}
use Rattle.mp_world.specs.World.{World}
use Rattle.mp_top.specs.Asked.{values_of}
use Rattle.mp_top.specs.Finding.{ComesOfSearch}
use Rattle.mp_top.specs.declared.decision.Search.{Search}
use Rattle.mp_top.specs.declared.finding.Workers.{Workers}
use Rattle.mp_top.proofs.Decided.{weaker}

-- what holds of machines by their own limit and tasks holds by those that they were made for
pub by_given : (ms : List AgentMachine) (limit : ℕ) (ts : List AgentTask) → limit_of ms ≡ limit → tasks_of ms ≡ ts
    → (P : ℕ → List AgentTask → Type 0) → P (limit_of ms) (tasks_of ms) → P limit ts
by_given ms limit ts limits tasks P h = subst (λ n. P n ts) limits (subst (λ us. P (limit_of ms) us) tasks h)

module _ (value : Values) (limit : ℕ) (ts : List AgentTask)
    (few_entries : limit ≤ most_expansions)
    (ms : List AgentMachine) (log : List Entry) (last : World)
    (leads : run (team_with value limit ts) (schedule_of log) ≡ Some last)
    (agents : last.agents ≡ map (λ m. m.done) ms)
  where
    pub are_of_run : AreTeamTasks ts → AreOfRun value ms
    are_of_run team = record {
      limit = limit;
      tasks = ts;
      schedule = schedule_of log;
      last = last;
      run = record { is_team = record { tasks = team; most = few_entries }; leads = leads };
      agents = agents;
    }

-- what such machines are told to have found
pub if_to_end : (value : Values) (limit : ℕ) (team : List Factor) (tasks : Tasks)
    → AnswersAreRight value → All IsChecked team → 1 ≤ length team → AreTasksOf team tasks
    → All IsWithinLimits tasks.tasks → limit ≤ most_expansions
    → (ms : List AgentMachine) (log : List Entry) (last : World)
    → run (team_with value limit tasks.tasks) (schedule_of log) ≡ Some last → last.agents ≡ map (λ m. m.done) ms
    → IsLog (team_with value limit tasks.tasks) log → is_over last ≡ true
    → {E : Type 0} (found : Result Solution E) → IfOk found (λ s. s.views ≡ tasks.views) → IfOk found (λ s. s.log ≡ log)
    → IfOk found (λ s. (w : World) → w.agents ≡ map (λ m. m.done) ms → s.answer ≡ answer_of w)
    → IfOk found (λ s. (w : World) → w.agents ≡ map (λ m. m.done) ms
    → s.text ≡ outcome_text (outcome_of w) (names_of team tasks.steps) log)
    → IfOk found (IsFoundToEnd value limit team)
unfolding is_found
if_to_end value limit team tasks law checked some are within few ms log last leads agents is_log over (Ok s) views same answer text =
    record {
      schedule = schedule_of log;
      is_found =
          is_found value limit team tasks (schedule_of log) last law checked some are within few leads s (answer last agents)
          (text last agents ∙ ap (λ l. outcome_text (outcome_of last) (names_of team tasks.steps) l) (sym same)) views
          (subst (IsLog (team_with value limit tasks.tasks)) (sym same) is_log) (ap schedule_of same);
      over = over;
    }
if_to_end value limit team tasks law checked some are within few ms log last leads agents is_log over (Err e) views same answer text = tt

-- ---- What comes of a search.

module _ (s : Search) (w : Workers) (team : List Factor) (r : Result Solution GroundRefusal)
    (within : OnOk r (AreWithin team)) (refused : IfErr r (IsFirstRefusal team))
  where
    -- turns serve whoever is asked to search
    pub of_turns : IfOk r (IsSolution (values_of s.heuristic) s.limit team) → ComesOfSearch team s w r
    of_turns solved = (
      weaker r (IsSolution (values_of s.heuristic) s.limit team) (IsFoundOn (values_of s.heuristic) s.limit team w.one)
          (λ found is. on_any (values_of s.heuristic) s.limit team found w.one is) solved,
      within,
      refused,
    )

    -- workers serve where one thread alone is not asked for
    pub of_workers : w.one ≡ false → IfOk r (IsFoundToEnd (values_of s.heuristic) s.limit team) → ComesOfSearch team s w r
    of_workers several found = (
      subst (λ one. IfOk r (IsFoundOn (values_of s.heuristic) s.limit team one)) (sym several) found,
      within,
      refused,
    )
