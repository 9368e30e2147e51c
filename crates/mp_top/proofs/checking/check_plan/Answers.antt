use Rattle.std.proofs.Common.{false}
use Rattle.mp_top.specs.Decided.{IsToldByTeam, IsToldOfPlan}
use Rattle.mp_top.proofs.Decided.{weaker}
use Rattle.mp_top.proofs.Valid.{told_found}
use Rattle.mp_top.proofs.checking.check_plan.Goals as goal

pub returns : goal.returns
returns c =
    let team = c.args.team.now in
    let plan = c.args.plan.now in
    weaker c.found_of_plan.result (IsToldOfPlan c.in_ok-found.found plan.cost) (IsToldByTeam false team plan)
    (λ d h. told_found team plan c.in_ok-found.found d c.in_ok-found.ensures h) c.found_of_plan.ensures
