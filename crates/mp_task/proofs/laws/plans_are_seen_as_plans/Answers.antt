use Rattle.mp_task.proofs.SeenPlan.{seen_plan}
use Rattle.mp_task.proofs.laws.plans_are_seen_as_plans.Goals as goal

pub returns : goal.returns
returns c = λ tasks t s plan are here joint solves.
    let found = seen_plan tasks are t here s plan joint solves in
    (found.plan, found.stand, found.plans, found.fits)
