use Rattle.std.proofs.Common.{◌≡◌, List, slice_get, sym, ap, subst, ◌∙◌}
use Rattle.std.specs.Prelude.{nat_lt}
use Rattle.mp_task.specs.Plan.{JointState}
use Rattle.mp_audit.specs.declared.verdict.AuditVerdict.{AuditVerdict}
use Rattle.mp_audit.specs.declared.verdict.AuditVerdict.TheVariants.{Start}
use Rattle.mp_audit.specs.Audited.{bound_of}
use Rattle.mp_audit.specs.Failures.{failure_if, low_start}
use Rattle.mp_audit.proofs.FirstLemmas.{found_in, none_after, passed_in}
use Rattle.mp_audit.proofs.auditing.first_low_start.Goals as goal

pub loop-task-preserved : goal.loop-task-preserved
loop-task-preserved c =
    let l = c.loop-task in
    let d = c.args.known.now in
    let t = c.task-item.result in
    let first =
    subst (λ (s : JointState). c.low_start.result ≡ slice_get (failure_if (nat_lt (bound_of d.bounds.now.entries (record { agent = t.me; state = s })) c.args.cost) (Start t.me)) 0)
    c.in_ok-start.ensures.joint c.low_start.ensures in
    passed_in (low_start d.tasks.now d.bounds.now.entries c.args.cost) d.tasks.now l.task-index t c.loop-task-test.true c.task-item.is (sym c.in_default.is ∙ first) ∙ l.invariant

pub returns-in-Some : goal.returns-in-Some
returns-in-Some c =
    let l = c.loop-task in
    let d = c.args.known.now in
    let t = c.task-item.result in
    let first =
    subst (λ (s : JointState). c.low_start.result ≡ slice_get (failure_if (nat_lt (bound_of d.bounds.now.entries (record { agent = t.me; state = s })) c.args.cost) (Start t.me)) 0)
    c.in_ok-start.ensures.joint c.low_start.ensures in
    found_in (low_start d.tasks.now d.bounds.now.entries c.args.cost) d.tasks.now l.task-index t c.loop-task-test.true c.task-item.is c.in-Some.failure (sym c.in-Some.is ∙ first)
    ∙ ap (λ (vs : List AuditVerdict). slice_get vs 0) l.invariant

pub returns : goal.returns
returns c =
    let l = c.loop-task in
    let d = c.args.known.now in
    ap (λ (vs : List AuditVerdict). slice_get vs 0)
    (sym (none_after (low_start d.tasks.now d.bounds.now.entries c.args.cost) d.tasks.now l.task-index c.loop-task-test.false) ∙ l.invariant)
