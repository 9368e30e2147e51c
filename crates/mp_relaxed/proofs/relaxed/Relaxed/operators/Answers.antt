use Rattle.std.proofs.Common.{◌≤◌, length, All, ap, subst, arith}
use Rattle.mp_relaxed.specs.Relaxed.{RelaxedProblem}
use Rattle.mp_relaxed.proofs.ZippedLemmas.{length-zipped, zipped_all}
use Rattle.mp_relaxed.proofs.relaxed.Relaxed.operators.Goals as goal

pub returns-clause-value : goal.returns-clause-value
returns-clause-value c =
    let same = ap (λ (p : RelaxedProblem). length p.operators) c.self.view_is in
    omega (arith, length-zipped c.self.inside.pres c.self.inside.adds c.self.inside.costs.items c.self.invariant.adds_each c.self.invariant.cost_each)

pub returns-clause-few : goal.returns-clause-few
returns-clause-few c =
    let same = ap (λ (p : RelaxedProblem). length p.operators) c.self.view_is in
    omega (arith, c.self.invariant.few, length-zipped c.self.inside.pres c.self.inside.adds c.self.inside.costs.items c.self.invariant.adds_each c.self.invariant.cost_each)

pub returns-clause-cheap : goal.returns-clause-cheap
returns-clause-cheap c =
    subst (λ (p : RelaxedProblem). All (λ o. o.cost ≤ 16000000) p.operators) c.self.view_is
    (zipped_all (λ n. n ≤ 16000000) c.self.inside.pres c.self.inside.adds c.self.inside.costs.items c.self.invariant.cheap)
