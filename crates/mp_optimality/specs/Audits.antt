-- What an audit of a certificate and of a plan finds for the files of a team, and which of their lines is refused.
use Rattle.std.specs.Prelude.{◌≡◌, ◌↔◌, ◌≤◌, ℕ, true, List, length, Ok, Err}
use Rattle.mp_audit.specs.Failures.{verdict_on}
use Rattle.mp_audit.specs.declared.certificate.Certificate.{Certificate}
use Rattle.mp_audit.specs.declared.verdict.AuditVerdict.{AuditVerdict}
use Rattle.mp_certificates.specs.Accepted.{IsRefusedLine, IsTextOf}
use Rattle.mp_forms.specs.declared.factor.Factor.{Factor}
use Rattle.mp_plan_verdict.specs.Verdict.{verdict}
use Rattle.mp_plan_verdict.specs.declared.verdict.CheckVerdict.{CheckVerdict}
use Rattle.mp_plans.specs.Plan.{plan_in}
use Rattle.mp_plans.specs.declared.plan.PlanText.{PlanText}
use Rattle.mp_solutions.specs.Right.{IsCheapest}
use Rattle.mp_solve.specs.Refused.{AreWithin}
use Rattle.mp_split.specs.Team.{AreTasksOf, IsFirstRefusal}
use Rattle.mp_split.specs.declared.team.Tasks.{Tasks}
use Rattle.mp_text.specs.Lines.{Text}
use Rattle.mp_optimality.specs.Told.{is_optimal, optimal_text, told_audit}
use Rattle.mp_optimality.specs.declared.auditing.PlanAudit.{PlanAudit}
use Rattle.mp_optimality.specs.declared.refusal.AuditRefusal.{AuditRefusal}
use Rattle.mp_optimality.specs.declared.refusal.AuditRefusal.TheVariants as refusals

-- the tasks of a team of at most 16 agents, none of whose factors is too large
pub record HasTasks (team : List Factor) : Type 0 where
  pub few : length team ≤ 16
  pub within : AreWithin team
  pub tasks : Tasks
  pub are_tasks : AreTasksOf team tasks

-- a text is that of a certificate which fits the tasks of a team
pub record HasCertificate (team : List Factor) (text : Text) : Type 0 where
  pub team_has : HasTasks team
  pub certificate : Certificate
  pub is_certificate : IsTextOf team_has.tasks.tasks certificate text

-- the line of this number is the first of a certificate's text that is refused for a team
pub record IsCertificateRefused (team : List Factor) (text : Text) (number : ℕ) : Type 0 where
  pub team_has : HasTasks team
  pub refused : IsRefusedLine team_has.tasks.tasks text number

-- the certificate fits, and the line of this number is the first of the plan's text that is refused
pub record IsPlanRefused (team : List Factor) (certificate plan : Text) (number : ℕ) : Type 0 where
  pub fits : HasCertificate team certificate
  pub refused : plan_in (length team) plan ≡ Err number

-- the certificate fits, and the other text is that of a plan
pub record IsAuditAccepted (team : List Factor) (certificate plan : Text) : Type 0 where
  pub fits : HasCertificate team certificate
  pub read : PlanText
  pub is_plan : plan_in (length team) plan ≡ Ok read

-- what is told of a certificate with this bound, and of a plan whose text states this cost
pub record Tells (found : CheckVerdict) (audit : AuditVerdict) (bound stated : ℕ) (a : PlanAudit) : Type 0 where
  pub text : a.text ≡ told_audit found audit bound stated
  pub optimal : a.optimal ≡ is_optimal found audit bound stated

-- A certificate and a plan were audited for a team. The text tells what a check of the plan finds, and where it is valid at the
-- cost that it states, what an audit of the certificate finds. It is that of an optimal plan exactly where the plan is told to be
-- optimal, and then the plan solves the united problem at this cost, and no plan that solves it costs less.
pub record IsAudited (team : List Factor) (certificate plan : Text) (a : PlanAudit) : Type 0 where
  pub accepted : IsAuditAccepted team certificate plan
  pub tells :
      Tells (verdict team accepted.read.plan)
      (verdict_on accepted.fits.team_has.tasks.tasks accepted.fits.certificate)
      accepted.fits.certificate.cost accepted.read.cost a
  pub told_exactly : (a.optimal ≡ true) ↔ (a.text ≡ optimal_text accepted.read.cost)
  pub cheapest :
      a.optimal ≡ true
      → IsCheapest team accepted.read.cost (length accepted.read.plan) accepted.read.plan

-- Why nothing was audited: the first agent whose factor is not grounded, a line of the certificate, or a line of the plan.
abbrev pub IsRefusedAudit : List Factor → Text → Text → AuditRefusal → Type 0
IsRefusedAudit team certificate plan (refusals.Sizes refusal) = IsFirstRefusal team refusal
IsRefusedAudit team certificate plan (refusals.Certificate number) = IsCertificateRefused team certificate number
IsRefusedAudit team certificate plan (refusals.Plan number) = IsPlanRefused team certificate plan number
