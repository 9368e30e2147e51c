use Rattle.mp_audit.specs.States.{joint_of}
use Rattle.mp_audit.proofs.LeadLemmas.{step_applies}
use Rattle.mp_audit.proofs.SizeLemmas.{sizes_beside, sizes_of_task}
use Rattle.mp_audit.proofs.leading.cheap_step.Goals as goal

pub reach-requires-clause-sizes : goal.reach-requires-clause-sizes
reach-requires-clause-sizes c =
    sizes_of_task c.args.known.now.tasks.now c.args.task.now c.args.state.now (c.requires.ready.team c.args.task.now c.requires.team) c.requires.sizes

pub cheap_lead-requires-clause-cost : goal.cheap_lead-requires-clause-cost
cheap_lead-requires-clause-cost c = c.keeps_limits.ensures.cost

pub cheap_lead-requires-clause-reached : goal.cheap_lead-requires-clause-reached
cheap_lead-requires-clause-reached c =
    sizes_beside c.args.known.now.tasks.now c.args.task.now c.args.state.now c.reach.new.reached c.requires.sizes c.reach.ensures.beside

pub returns-clause-first : goal.returns-clause-first
returns-clause-first c =
    let d = c.args.known.now in
    step_applies d.tasks.now d.bounds.now.entries c.args.entry c.args.bound.now c.args.task.now c.args.action c.args.act.now
    (joint_of c.args.state.now) (joint_of c.reach.new.reached) c.cheap_lead.result c.requires.state c.reach.ensures.joint c.requires.applies c.cheap_lead.ensures
