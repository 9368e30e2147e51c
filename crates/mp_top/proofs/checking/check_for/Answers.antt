use Rattle.std.proofs.Common.{◌≤◌, length, arith}
use Rattle.mp_plans.proofs.PlanSizes.{short_plan}
use Rattle.mp_top.proofs.checking.check_for.Goals as goal

pub tell_plan-requires-clause-short : goal.tell_plan-requires-clause-short
tell_plan-requires-clause-short c =
    let few : length c.in-Ok.plan.plan ≤ length c.args.text.now = short_plan _ c.args.text.now c.in-Ok.plan c.in-Ok.ensures.found in
    let most = c.requires.short in
    omega (arith, few, most)
