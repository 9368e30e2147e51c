-- What an audit finds of a certificate and a plan that were read.
use Rattle.std.proofs.Common.{◌≡◌, ◌≤◌, List, length, All, Ok, sym, ◌∙◌, subst}
use Rattle.mp_audit.specs.Failures.{verdict_on}
use Rattle.mp_audit.specs.declared.certificate.Certificate.{Certificate}
use Rattle.mp_certificates.specs.Accepted.{IsTextOf}
use Rattle.mp_forms.specs.declared.factor.Factor.{Factor}
use Rattle.mp_ground_laws.specs.Checked.{IsChecked}
use Rattle.mp_plan_verdict.specs.Verdict.{verdict}
use Rattle.mp_plans.specs.Plan.{plan_in}
use Rattle.mp_plans.specs.declared.plan.PlanText.{PlanText}
use Rattle.mp_solve.specs.Refused.{AreWithin}
use Rattle.mp_split.specs.Team.{AreTasksOf, IsFirstRefusal}
use Rattle.mp_split.specs.declared.team.Tasks.{Tasks}
use Rattle.mp_split.proofs.FirstAgents.{no_memory}
use Rattle.mp_text.specs.Lines.{Text}
use Rattle.mp_optimality.specs.Audits.{HasCertificate, HasTasks, IsAudited, IsRefusedAudit, Tells}
use Rattle.mp_optimality.specs.Reading.{IsCertificateUnread, IsPlanUnread}
use Rattle.mp_optimality.specs.declared.auditing.PlanAudit.{PlanAudit}
use Rattle.mp_optimality.specs.declared.refusal.AuditRefusal.{AuditRefusal}
use Rattle.mp_optimality.specs.declared.refusal.AuditRefusal.TheVariants as refusals
use Rattle.mp_optimality.proofs.Cheapest.{Laws, cheapest}
use Rattle.mp_optimality.proofs.Telling.{told_exactly}

module _ (team : List Factor) (t : Tasks) (some : 1 ≤ length team) (few : length team ≤ 16) (within : AreWithin team)
    (are : AreTasksOf team t) where
  pub has_tasks : HasTasks team
  has_tasks = record { few = few; within = within; tasks = t; are_tasks = are }

  -- the certificate is refused
  pub certificate_refused : (text plan : Text) (r : AuditRefusal) → IsCertificateUnread t.tasks text r → IsRefusedAudit team text plan r
  unfolding has_tasks
  certificate_refused text plan (refusals.Sizes refusal) h = subst (IsFirstRefusal team) (sym h) (no_memory team some)
  certificate_refused text plan (refusals.Certificate number) h = record { team_has = has_tasks; refused = h }
  certificate_refused text plan (refusals.Plan number) h = absurd h

  module _ (text plan : Text) (certificate : Certificate) (fits : IsTextOf t.tasks certificate text) where
    pub has_certificate : HasCertificate team text
    unfolding has_tasks
    has_certificate = record { team_has = has_tasks; certificate = certificate; is_certificate = fits }

    -- the plan is refused
    pub plan_refused : (r : AuditRefusal) → IsPlanUnread (length team) plan r → IsRefusedAudit team text plan r
    plan_refused (refusals.Sizes refusal) h = subst (IsFirstRefusal team) (sym h) (no_memory team some)
    plan_refused (refusals.Certificate number) h = absurd h
    plan_refused (refusals.Plan number) h = record { fits = has_certificate; refused = h }

    -- both were read
    pub audited_by : Laws → All IsChecked team → (read : PlanText) → plan_in (length team) plan ≡ Ok read → (a : PlanAudit)
        → Tells (verdict team read.plan) (verdict_on t.tasks certificate) certificate.cost read.cost a → IsAudited team text plan a
    unfolding has_tasks has_certificate
    audited_by laws checked read is_plan a tells = record {
      accepted = record { fits = has_certificate; read = read; is_plan = is_plan };
      tells = tells;
      told_exactly =
          told_exactly (verdict team read.plan) (verdict_on t.tasks certificate) certificate.cost read.cost a.optimal a.text
          tells.optimal tells.text;
      cheapest = λ yes. cheapest laws team t checked some are certificate read (sym tells.optimal ∙ yes);
    }
