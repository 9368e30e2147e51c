use Rattle.std.proofs.Common.{◌++◌, map, ap, sym, ◌∙◌}
use Rattle.mp_task.specs.Strips.{Operator}
use Rattle.mp_relaxed.specs.Relaxed.{RelaxedProblem}
use Rattle.mp_relaxed.proofs.ZippedLemmas.{zipped_costs}
use Rattle.mp_relaxed.proofs.relaxed.Relaxed.costs.Goals as goal

pub returns : goal.returns
returns c =
    c.in_ok-extend_from_slice.ensures.items
    ∙ (λ i. c.in_ok-costs.ensures.items i ++ c.as_slice.ensures.value i)
    ∙ sym (zipped_costs c.self.inside.pres c.self.inside.adds c.self.inside.costs.items c.self.invariant.adds_each c.self.invariant.cost_each)
    ∙ ap (λ (p : RelaxedProblem). map (λ (o : Operator). o.cost) p.operators) c.self.view_is
