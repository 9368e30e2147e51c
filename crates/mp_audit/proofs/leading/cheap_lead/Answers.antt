use Rattle.std.proofs.Common.{◌≡◌, false, true, sym, ap, ◌∙◌}
use Rattle.mp_task.specs.Plan.{JointState}
use Rattle.mp_audit.specs.Audited.{state_of}
use Rattle.mp_audit.specs.Failures.{is_visible}
use Rattle.mp_audit.specs.States.{joint_of}
use Rattle.mp_audit.proofs.LeadLemmas.{other_lead, own_lead, unseen_lead}
use Rattle.mp_audit.proofs.SizeLemmas.{sizes_of_task}
use Rattle.mp_audit.proofs.leading.cheap_lead.Goals as goal

pub is_visible-requires-clause-before : goal.is_visible-requires-clause-before
is_visible-requires-clause-before c =
    sizes_of_task c.args.known.now.tasks.now c.args.task.now c.args.state.now (c.requires.ready.team c.args.task.now c.requires.team) c.requires.sizes

pub is_visible-requires-clause-after : goal.is_visible-requires-clause-after
is_visible-requires-clause-after c =
    sizes_of_task c.args.known.now.tasks.now c.args.task.now c.args.reached.now (c.requires.ready.team c.args.task.now c.requires.team) c.requires.reached

pub returns-in-Some : goal.returns-in-Some
returns-in-Some c =
    let d = c.args.known.now in
    own_lead d.tasks.now d.bounds.now.entries c.args.entry c.args.bound.now c.args.task.now c.args.action c.args.act.now (joint_of c.args.reached.now) c.in-Some.failure
    (sym c.in-Some.is ∙ c.cheap_in_task.ensures)

pub returns-then-not-is_visible : goal.returns-then-not-is_visible
returns-then-not-is_visible c =
    let d = c.args.known.now in
    let t = c.args.task.now in
    let reached = joint_of c.args.reached.now in
    let hidden : is_visible t c.args.act.now (state_of c.args.bound.now) reached ≡ false =
    ap (λ (s : JointState). is_visible t c.args.act.now s reached) (sym c.requires.state) ∙ sym c.is_visible.ensures ∙ c.if-not-is_visible.true in
    unseen_lead d.tasks.now d.bounds.now.entries c.args.entry c.args.bound.now t c.args.action c.args.act.now reached (sym c.in_default.is ∙ c.cheap_in_task.ensures) hidden

pub returns : goal.returns
returns c =
    let d = c.args.known.now in
    let t = c.args.task.now in
    let reached = joint_of c.args.reached.now in
    let seen : is_visible t c.args.act.now (state_of c.args.bound.now) reached ≡ true =
    ap (λ (s : JointState). is_visible t c.args.act.now s reached) (sym c.requires.state) ∙ sym c.is_visible.ensures ∙ c.if-not-is_visible.false in
    other_lead d.tasks.now d.bounds.now.entries c.args.entry c.args.bound.now t c.args.action c.args.act.now reached c.cheap_in_others.result
    (sym c.in_default.is ∙ c.cheap_in_task.ensures) seen c.cheap_in_others.ensures
