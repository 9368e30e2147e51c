use Rattle.std.proofs.Common.{sym, ◌∙◌}
use Rattle.mp_plans.proofs.SlotLemmas.{ordered}
use Rattle.mp_plans.proofs.order.in_order.Goals as goal

pub returns : goal.returns
returns c =
    ordered _ c.args.steps c.args.most _ (sym c.len.ensures ∙ c.if-len-most.false) c.in_ok-slots.ensures c.all_steps.ensures
