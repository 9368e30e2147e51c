-- What certifies a search that took turns until all agents had ended.
use Rattle.std.proofs.Common.{◌≡◌, ◌≤◌, ℕ, Bool, List, length, All, Some, Result, Ok, Err, IfOk, IsSome, refl, sym, ap, ◌∙◌, subst}
use Rattle.std.proofs.lemmas.Option.{same_Some}
use Rattle.mp_audit.specs.Failures.{verdict_on}
use Rattle.mp_audit.specs.LastCut.{last_bounds}
use Rattle.mp_audit.specs.declared.certificate.Certificate.{Certificate}
use Rattle.mp_audit.specs.declared.verdict.AuditVerdict.TheVariants.{Holds}
use Rattle.mp_certificates.specs.Accepted.{IsTextOf}
use Rattle.mp_certify.specs.Certified.{IsCertificateOf, solved_cost}
use Rattle.mp_forms.specs.declared.factor.Factor.{Factor}
use Rattle.mp_ground_laws.specs.Checked.{IsChecked}
use Rattle.mp_messages.specs.History.{schedule as schedule_of}
use Rattle.mp_outcome.specs.Names.{names_of}
use Rattle.mp_schedule.specs.TeamRun.{TeamRun}
use Rattle.mp_solutions.specs.declared.solution.Solution.{Solution}
use Rattle.mp_solve.specs.Ended.{HasEnded}
use Rattle.mp_solve.proofs.Found.{AnswersAreRight}
use Rattle.mp_solve.proofs.Solutions.{if_solution}
use Rattle.mp_split.specs.Team.{AreTasksOf}
use Rattle.mp_split.specs.declared.team.Tasks.{Tasks}
use Rattle.mp_task.specs.AgentTask.{AgentTask}
use Rattle.mp_team_states.specs.Expansions.{nothing_known}
use Rattle.mp_text.specs.Lines.{Text}
use Rattle.mp_text.specs.Outcome.{outcome_text}
use Rattle.mp_world.proofs.Agents.{agree_numbered}
use Rattle.mp_world.proofs.LogOfRun.{run_log_schedule}
use Rattle.mp_world.specs.Answers.{answer_of, outcome_of}
use Rattle.mp_world.specs.Events.{run}
use Rattle.mp_world.specs.Logs.{log_of_run}
use Rattle.mp_world.specs.Team.{AreTeamTasks, most_expansions, team_with}
use Rattle.mp_world.specs.World.{AreNumbered, World}
use Rattle.mp_world.specs.declared.answer.Answer.{Answer}
use Rattle.mp_world.specs.declared.answer.Answer.TheVariants.{Solved}
use Rattle.mp_optimality.specs.Certified.{IsCertified, TellsAnswer, TellsSolved}

-- through a result
weaker : {X Y : Type 0} (r : Result X Y) (P Q : X → Type 0) → ((x : X) → P x → Q x) → IfOk r P → IfOk r Q
weaker (Ok x) P Q h p = h x p
weaker (Err e) P Q h p = tt

-- the certificate of a world that has the answer of a plan
module _ (tasks : List AgentTask) (last : World) (certificate : Certificate) (is : IsCertificateOf last certificate)
    (holds : verdict_on tasks certificate ≡ Holds) where
  tells_solved : (text : Text) → IsTextOf tasks certificate text → TellsSolved tasks last text
  tells_solved text printed cost steps answer =
      let same : certificate.cost ≡ cost = same_Some certificate.cost cost (sym is.cost_is ∙ ap solved_cost answer) in (
        certificate,
        record {
          cost_is = same;
          bounds_are = is.bounds_are ∙ ap (last_bounds last) same;
          fits = printed.certificate_fits;
          holds = holds;
        },
        printed.is,
      )

  pub told_certificate : {E : Type 0} (r : Result Text E) → IfOk r (IsTextOf tasks certificate) → IfOk r (TellsSolved tasks last)
  told_certificate r h = weaker r (IsTextOf tasks certificate) (TellsSolved tasks last) tells_solved h

-- and what is told of it by the answer
pub told_solved : {E : Type 0} (tasks : List AgentTask) (last : World) (a : Answer) (cost steps : ℕ) (r : Result Text E)
    → a ≡ Solved cost steps → a ≡ answer_of last → IfOk r (TellsSolved tasks last) → IfOk r (TellsAnswer tasks last a)
told_solved tasks last a cost steps r is answer h =
    subst (λ (x : Answer). IfOk r (TellsAnswer tasks last x)) (sym is)
    (weaker r (TellsSolved tasks last) (TellsAnswer tasks last (Solved cost steps)) (λ text tells. tells cost steps (sym answer ∙ is)) h)

pub has_cost : (last : World) (a : Answer) (cost steps : ℕ) → a ≡ Solved cost steps → a ≡ answer_of last → IsSome (solved_cost (answer_of last))
has_cost last a cost steps is answer = subst (λ x. IsSome (solved_cost x)) (sym is ∙ answer) refl

-- as what a call gives
abbrev as_ok : Solution → Result Solution Bool
as_ok s = Ok s

module _ (limit : ℕ) (team : List Factor) (tasks : Tasks) (r : TeamRun) (ended : HasEnded (team_with nothing_known limit tasks.tasks) r) where
  leads : run (team_with nothing_known limit tasks.tasks) r.schedule ≡ Some r.world
  leads = sym (λ i. run (team_with nothing_known (ended.done.limit_is i) (ended.done.tasks_are i)) r.schedule) ∙ ended.done.run.leads

  logged : r.log ≡ log_of_run (team_with nothing_known limit tasks.tasks) r.schedule
  logged = ended.done.run.logged ∙ (λ i. log_of_run (team_with nothing_known (ended.done.limit_is i) (ended.done.tasks_are i)) r.schedule)

  numbered : AreNumbered tasks.tasks
  numbered = agree_numbered tasks.tasks (subst AreTeamTasks ended.done.tasks_are ended.done.team.tasks).agree

  -- the events of its log are its schedule
  log_leads : run (team_with nothing_known limit tasks.tasks) (schedule_of r.log) ≡ Some r.world
  log_leads =
      ap (run (team_with nothing_known limit tasks.tasks))
      (ap schedule_of logged ∙ run_log_schedule nothing_known tasks.tasks numbered limit r.schedule r.world leads)
      ∙ leads

  pub certified_by : AnswersAreRight nothing_known → All IsChecked team → 1 ≤ length team → AreTasksOf team tasks → limit ≤ most_expansions
      → (s : Solution) (text : Text) → s.views ≡ tasks.views → s.log ≡ r.log → s.answer ≡ answer_of r.world
      → s.text ≡ outcome_text (outcome_of r.world) (names_of team tasks.steps) r.log
      → TellsAnswer r.tasks r.world s.answer text → IsCertified limit team s text
  certified_by law checked some are few s text views log answer told tells = record {
    solution = if_solution nothing_known limit team tasks r law checked some are few ended (as_ok s) views log answer told;
    tasks = tasks;
    are_tasks = are;
    last = r.world;
    leads = ap (λ l. run (team_with nothing_known limit tasks.tasks) (schedule_of l)) log ∙ log_leads;
    told = subst (λ ts. TellsAnswer ts r.world s.answer text) ended.done.tasks_are tells;
  }
