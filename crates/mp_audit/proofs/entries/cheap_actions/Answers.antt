use Rattle.std.proofs.Common.{◌<◌, List, length, slice_get, sym, ap, ◌∙◌, arith}
use Rattle.mp_audit.specs.declared.verdict.AuditVerdict.{AuditVerdict}
use Rattle.mp_audit.specs.States.{joint_of}
use Rattle.mp_audit.proofs.ActionLemmas.{next_fails, next_passed, none_next}
use Rattle.mp_audit.proofs.entries.cheap_actions.Goals as goal

pub cheap_action-requires-clause-inside : goal.cheap_action-requires-clause-inside
cheap_action-requires-clause-inside c = omega (arith, c.in-Some.ensures.next.0, c.requires.size)

pub cheap_action-requires-clause-found : goal.cheap_action-requires-clause-found
cheap_action-requires-clause-found c = sym (c.requires.numbers c.in-Some.action) ∙ c.in-Some.ensures.some.member

pub loop-action-preserved : goal.loop-action-preserved
loop-action-preserved c =
    let d = c.args.known.now in
    let l = c.loop-action in
    let inside : c.in-Some.action < length c.args.task.now.acts = omega (arith, c.in-Some.ensures.next.0, c.requires.size) in
    record {
      inside = omega (arith, inside);
      beside = c.cheap_action.ensures.beside;
      left =
          next_passed d.tasks.now d.bounds.now.entries c.args.entry c.args.bound.now c.args.task.now (joint_of c.args.state.now) c.requires.state c.args.found.now.members c.requires.numbers
          l.from c.in-Some.action c.in-Some.ensures.some inside (λ act is. sym c.in_default-cheap_action.is ∙ c.cheap_action.ensures.first act is)
          ∙ l.invariant.left;
    }

pub returns-in-Some-cheap_action-clause-first : goal.returns-in-Some-cheap_action-clause-first
returns-in-Some-cheap_action-clause-first c =
    let d = c.args.known.now in
    let l = c.loop-action in
    let inside : c.in-Some.action < length c.args.task.now.acts = omega (arith, c.in-Some.ensures.next.0, c.requires.size) in
    next_fails d.tasks.now d.bounds.now.entries c.args.entry c.args.bound.now c.args.task.now (joint_of c.args.state.now) c.requires.state c.args.found.now.members c.requires.numbers
    l.from c.in-Some.action c.in-Some-cheap_action.failure c.in-Some.ensures.some inside (λ act is. sym c.in-Some-cheap_action.is ∙ c.cheap_action.ensures.first act is)
    ∙ ap (λ (vs : List AuditVerdict). slice_get vs 0) l.invariant.left

pub returns-clause-first : goal.returns-clause-first
returns-clause-first c =
    let d = c.args.known.now in
    let l = c.loop-action in
    ap (λ (vs : List AuditVerdict). slice_get vs 0)
    (sym (none_next d.tasks.now d.bounds.now.entries c.args.entry c.args.bound.now c.args.task.now (joint_of c.args.state.now) c.requires.state c.args.found.now.members c.requires.numbers
    l.from l.invariant.inside c.in_default.ensures.none) ∙ l.invariant.left)
