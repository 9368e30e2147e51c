-- An audit says that a certificate holds exactly where it shows that no plan is cheaper.
use Rattle.std.proofs.Common.{◌≡◌, ◌↔◌, List, [], ◌++◌, sym, ◌∙◌}
use Rattle.mp_task.specs.AgentTask.{AgentTask}
use Rattle.mp_task.specs.Agreement.{AreNumbered}
use Rattle.mp_audit.specs.declared.certificate.Certificate.{Certificate}
use Rattle.mp_audit.specs.declared.verdict.AuditVerdict.{AuditVerdict}
use Rattle.mp_audit.specs.declared.verdict.AuditVerdict.TheVariants.{Holds}
use Rattle.mp_audit.specs.Audited.{Audited}
use Rattle.mp_audit.specs.Failures.{doubles, low_starts, all_entry_failures, failures, verdict_on}
use Rattle.mp_audit.proofs.EmptyLemmas.{parts_empty, both_empty}
use Rattle.mp_audit.proofs.DoubleLemmas.{once_from_none, none_from_once}
use Rattle.mp_audit.proofs.FailureLemmas.{none_where_holds, holds_from_none}
use Rattle.mp_audit.proofs.VerdictLemmas.{no_goal, no_cheap_step, no_entry_fails, starts_reach, no_start_low}

module _ (tasks : List AgentTask) (are : AreNumbered tasks) (certificate : Certificate) where
  pub audited_from_none : failures tasks certificate ≡ [] → Audited tasks certificate
  audited_from_none none =
      let bounds = certificate.bounds in
      let all = parts_empty (doubles bounds) (low_starts tasks bounds certificate.cost ++ all_entry_failures tasks bounds) none in
      let behind = parts_empty (low_starts tasks bounds certificate.cost) (all_entry_failures tasks bounds) all.1 in
      record {
        once = once_from_none bounds all.0;
        starts = starts_reach tasks are bounds certificate.cost behind.0;
        goals = no_goal tasks are bounds behind.1;
        steps = no_cheap_step tasks are bounds behind.1;
      }

  pub none_from_audited : Audited tasks certificate → failures tasks certificate ≡ []
  none_from_audited audited =
      let bounds = certificate.bounds in
      both_empty (doubles bounds) (low_starts tasks bounds certificate.cost ++ all_entry_failures tasks bounds)
      (none_from_once bounds audited.once)
      (both_empty (low_starts tasks bounds certificate.cost) (all_entry_failures tasks bounds)
      (no_start_low tasks are bounds certificate.cost audited.starts)
      (no_entry_fails tasks are bounds audited.goals audited.steps))

-- what is found is that it holds exactly where it shows that
pub holds_exactly : (tasks : List AgentTask) (certificate : Certificate) (v : AuditVerdict) → AreNumbered tasks → v ≡ verdict_on tasks certificate → (v ≡ Holds) ↔ Audited tasks certificate
holds_exactly tasks certificate v are is = (
  (λ holds. audited_from_none tasks are certificate (none_where_holds tasks certificate (sym is ∙ holds))),
  (λ audited. is ∙ holds_from_none tasks certificate (none_from_audited tasks are certificate audited)),
)
