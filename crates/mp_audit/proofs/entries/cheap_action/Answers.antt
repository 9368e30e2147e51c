use Rattle.std.proofs.Common.{◌≡◌, false, Option, sym, ap, subst, ◌∙◌, slice_get}
use Rattle.std.specs.Option.{option_map_or}
use Rattle.std.proofs.lemmas.Option.{same_Some}
use Rattle.mp_task.specs.declared.act.Act.{Act}
use Rattle.mp_task.specs.Plan.{applies, private_of}
use Rattle.mp_audit.specs.Failures.{cheap_steps}
use Rattle.mp_audit.specs.States.{joint_of}
use Rattle.mp_audit.proofs.entries.cheap_action.Goals as goal

pub cheap_step-requires-clause-applies : goal.cheap_step-requires-clause-applies
cheap_step-requires-clause-applies c =
    let s = c.args.state.now in
    let t = c.args.task.now in
    sym (ap (λ (o : Option Act). option_map_or (λ a. applies a s.publics.members (private_of (joint_of s) t.me)) o false) c.action_of-act.ensures) ∙ c.requires.found

pub returns-clause-first : goal.returns-clause-first
returns-clause-first c = λ act is.
    let d = c.args.known.now in
    let same = same_Some _ _ (sym c.action_of-act.ensures ∙ is) in
    subst (λ (a : Act). c.cheap_step.result ≡ slice_get (cheap_steps d.tasks.now d.bounds.now.entries c.args.entry c.args.bound.now c.args.task.now c.args.action a) 0) same c.cheap_step.ensures.first
