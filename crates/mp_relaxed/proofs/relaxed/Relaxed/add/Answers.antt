use Rattle.std.proofs.Common.{◌<◌, length, ap, arith}
use Rattle.mp_task.specs.Strips.{Operator}
use Rattle.mp_relaxed.specs.Relaxed.{RelaxedProblem, operator_at}
use Rattle.mp_relaxed.proofs.ZippedLemmas.{length-zipped, zipped_at}
use Rattle.mp_relaxed.proofs.relaxed.Relaxed.add.Goals as goal

pub row-requires : goal.row-requires
row-requires c =
    let same = ap (λ (p : RelaxedProblem). length p.operators) c.self.view_is in
    omega (arith, length-zipped c.self.inside.pres c.self.inside.adds c.self.inside.costs.items c.self.invariant.adds_each c.self.invariant.cost_each)

pub returns-clause-value : goal.returns-clause-value
returns-clause-value c =
    let same = ap (λ (p : RelaxedProblem). (operator_at p.operators c.args.k).add) c.self.view_is in
    let long = ap (λ (p : RelaxedProblem). length p.operators) c.self.view_is in
    let inside : c.args.k < length c.self.inside.pres = omega (arith, length-zipped c.self.inside.pres c.self.inside.adds c.self.inside.costs.items c.self.invariant.adds_each c.self.invariant.cost_each) in
    let at = ap (λ (o : Operator). o.add) (zipped_at c.self.inside.pres c.self.inside.adds c.self.inside.costs.items c.args.k c.self.invariant.adds_each c.self.invariant.cost_each inside) in
    cc
