-- Why the text of a certificate or of a plan was not read.
use Rattle.std.specs.Prelude.{◌≡◌, ℕ, List, Err}
use Rattle.mp_certificates.specs.Accepted.{IsRefusedLine}
use Rattle.mp_grounder.specs.declared.refusal.GroundRefusal.TheVariants.{OutOfMemory}
use Rattle.mp_plans.specs.Plan.{plan_in}
use Rattle.mp_task.specs.AgentTask.{AgentTask}
use Rattle.mp_text.specs.Lines.{Text}
use Rattle.mp_optimality.specs.declared.refusal.AuditRefusal.{AuditRefusal}
use Rattle.mp_optimality.specs.declared.refusal.AuditRefusal.TheVariants.{Certificate, Plan, Sizes}

-- memory ran out, or the line of this number is the first of the certificate's text that is refused
abbrev pub IsCertificateUnread : List AgentTask → Text → AuditRefusal → Type 0
IsCertificateUnread tasks text (Sizes refusal) = refusal ≡ OutOfMemory
IsCertificateUnread tasks text (Certificate number) = IsRefusedLine tasks text number
IsCertificateUnread tasks text (Plan number) = ⊥

-- memory ran out, or the line of this number is the first of the plan's text that is refused
abbrev pub IsPlanUnread : ℕ → Text → AuditRefusal → Type 0
IsPlanUnread agents text (Sizes refusal) = refusal ≡ OutOfMemory
IsPlanUnread agents text (Certificate number) = ⊥
IsPlanUnread agents text (Plan number) = plan_in agents text ≡ Err number
