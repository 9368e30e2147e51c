use Rattle.std.proofs.Common.{List, true}
use Rattle.mp_forms.specs.declared.factor.Factor.{Factor}
use Rattle.mp_steps.specs.Packed.{IsRefused}
use Rattle.mp_top.specs.Decided.{IsToldByTeam, IsToldOfSteps}
use Rattle.mp_top.specs.declared.decision.Decision.{Decision}
use Rattle.mp_top.proofs.Decided.{weaker}
use Rattle.mp_top.proofs.Valid.{told_packed}
use Rattle.mp_top.proofs.checking.pack_plan.Goals as goal

pub returns-in-Ok : goal.returns-in-Ok
returns-in-Ok c =
    let team = c.args.team.now in
    let plan = c.args.plan.now in
    let packed = c.in-Ok.packed in
    weaker c.told_steps.result (IsToldOfSteps packed plan) (IsToldByTeam true team plan)
    (λ d h. told_packed team plan packed d c.in-Ok.ensures.packed h) c.told_steps.ensures

pub returns-in-Err : goal.returns-in-Err
returns-in-Err c =
    let team = c.args.team.now in
    let plan = c.args.plan.now in
    let refusal = c.in-Err.refusal in
    weaker c.told_refusal.result (λ (d : Decision). (t : List Factor) → IsRefused t plan.plan refusal → IsToldByTeam true t plan d) (IsToldByTeam true team plan)
    (λ d h. h team c.in-Err.ensures.refused) c.told_refusal.ensures
