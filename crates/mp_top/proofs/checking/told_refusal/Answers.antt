use Rattle.std.proofs.Common.{List, true, subst}
use Rattle.mp_forms.specs.declared.factor.Factor.{Factor}
use Rattle.mp_steps.specs.Packed.{IsRefused}
use Rattle.mp_top.specs.Decided.{IsToldByTeam, IsToldOfPlan}
use Rattle.mp_top.specs.declared.decision.Decision.{Decision}
use Rattle.mp_top.proofs.Decided.{weaker}
use Rattle.mp_top.proofs.Valid.{told_invalid}
use Rattle.mp_top.proofs.checking.told_refusal.Goals as goal

pub returns-in-Invalid : goal.returns-in-Invalid
returns-in-Invalid c =
    let plan = c.args.plan.now in
    let found = c.in-Invalid.found in
    weaker c.found_of_plan.result (IsToldOfPlan found plan.cost)
    (λ (d : Decision). (team : List Factor) → IsRefused team plan.plan c.args.refusal → IsToldByTeam true team plan d)
    (λ d h team r.
    let refused = subst (IsRefused team plan.plan) c.in-Invalid.is r in
    told_invalid team plan found d refused.0 refused.1 h) c.found_of_plan.ensures
