use Rattle.std.proofs.Common.{List, slice_get, sym, ap, ◌∙◌}
use Rattle.mp_audit.specs.declared.verdict.AuditVerdict.{AuditVerdict}
use Rattle.mp_audit.specs.Failures.{cheap_in_other}
use Rattle.mp_audit.specs.States.{joint_of}
use Rattle.mp_audit.proofs.FirstLemmas.{found_in, none_after, passed_in}
use Rattle.mp_audit.proofs.leading.cheap_in_others.Goals as goal

pub cheap_in_other-requires-clause-other : goal.cheap_in_other-requires-clause-other
cheap_in_other-requires-clause-other c = (c.loop-other.other-index, c.loop-other-test.true, sym c.other-item.is)

pub loop-other-preserved : goal.loop-other-preserved
loop-other-preserved c =
    let l = c.loop-other in
    let d = c.args.known.now in
    let given = cheap_in_other d.bounds.now.entries c.args.entry c.args.bound.now c.args.task.now c.args.action c.args.act.now (joint_of c.args.reached.now) in
    passed_in given d.tasks.now l.other-index c.other-item.result c.loop-other-test.true c.other-item.is (sym c.in_default.is ∙ c.cheap_in_other.ensures) ∙ l.invariant

pub returns-in-Some : goal.returns-in-Some
returns-in-Some c =
    let l = c.loop-other in
    let d = c.args.known.now in
    let given = cheap_in_other d.bounds.now.entries c.args.entry c.args.bound.now c.args.task.now c.args.action c.args.act.now (joint_of c.args.reached.now) in
    found_in given d.tasks.now l.other-index c.other-item.result c.loop-other-test.true c.other-item.is c.in-Some.failure (sym c.in-Some.is ∙ c.cheap_in_other.ensures)
    ∙ ap (λ (vs : List AuditVerdict). slice_get vs 0) l.invariant

pub returns : goal.returns
returns c =
    let l = c.loop-other in
    let d = c.args.known.now in
    let given = cheap_in_other d.bounds.now.entries c.args.entry c.args.bound.now c.args.task.now c.args.action c.args.act.now (joint_of c.args.reached.now) in
    ap (λ (vs : List AuditVerdict). slice_get vs 0) (sym (none_after given d.tasks.now l.other-index c.loop-other-test.false) ∙ l.invariant)
