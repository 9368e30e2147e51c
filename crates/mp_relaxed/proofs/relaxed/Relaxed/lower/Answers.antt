use Rattle.std.proofs.Common.{◌<◌, ◌-◌, length, ap, sym, ◌∙◌, arith}
use Rattle.std.proofs.lemmas.List.{get_or_default}
use Rattle.std.proofs.Math.ListN.{set as set_at}
use Rattle.mp_task.specs.Strips.{Operator}
use Rattle.mp_relaxed.specs.Relaxed.{RelaxedProblem, operator_at, with_cheaper, zipped}
use Rattle.mp_relaxed.proofs.ZippedLemmas.{length-zipped, zipped_at, zipped_set}
use Rattle.mp_relaxed.proofs.relaxed.Relaxed.lower.Goals as goal

pub index_mut-requires : goal.index_mut-requires
index_mut-requires c =
    let same = ap (λ (p : RelaxedProblem). length p.operators) c.self.view_is in
    omega (arith, length-zipped c.self.inside.pres c.self.inside.adds c.self.inside.costs.items c.self.invariant.adds_each c.self.invariant.cost_each)

pub overflow_sub-index_mut : goal.overflow_sub-index_mut
overflow_sub-index_mut c =
    let same = ap (λ (p : RelaxedProblem). (operator_at p.operators c.args.k).cost) c.self.view_is in
    let long = ap (λ (p : RelaxedProblem). length p.operators) c.self.view_is in
    let inside : c.args.k < length c.self.inside.pres = omega (arith, length-zipped c.self.inside.pres c.self.inside.adds c.self.inside.costs.items c.self.invariant.adds_each c.self.invariant.cost_each) in
    let at = ap (λ (o : Operator). o.cost) (zipped_at c.self.inside.pres c.self.inside.adds c.self.inside.costs.items c.args.k c.self.invariant.adds_each c.self.invariant.cost_each inside) in
    let e = c.index_mut.ensures.value ∙ get_or_default c.self.inside.costs.items c.args.k c.index_mut.result.now 0 (omega (arith, c.self.invariant.cost_each)) in
    omega arith

pub returns : goal.returns
returns c =
    let long = ap (λ (p : RelaxedProblem). length p.operators) c.self.view_is in
    let inside : c.args.k < length c.self.inside.pres = omega (arith, length-zipped c.self.inside.pres c.self.inside.adds c.self.inside.costs.items c.self.invariant.adds_each c.self.invariant.cost_each) in
    let at = ap (λ (o : Operator). o.cost) (zipped_at c.self.inside.pres c.self.inside.adds c.self.inside.costs.items c.args.k c.self.invariant.adds_each c.self.invariant.cost_each inside) in
    let e = c.index_mut.ensures.value ∙ get_or_default c.self.inside.costs.items c.args.k c.index_mut.result.now 0 (omega (arith, c.self.invariant.cost_each)) in
    let cost = e ∙ sym at in
    let os = zipped c.self.inside.pres c.self.inside.adds c.self.inside.costs.items in
    let made = ap (λ n. zipped c.self.inside.pres c.self.inside.adds (set_at c.self.inside.costs.items c.args.k (n - c.args.by))) cost
    ∙ zipped_set c.self.inside.pres c.self.inside.adds c.self.inside.costs.items c.args.k ((operator_at os c.args.k).cost - c.args.by) c.self.invariant.adds_each c.self.invariant.cost_each inside in
    (λ i. record { publics = c.self.inside.publics; facts = c.self.inside.facts; operators = made i; goals = c.self.inside.goals.items })
    ∙ ap (λ (p : RelaxedProblem). record p { operators = with_cheaper c.args.k c.args.by p.operators }) c.self.view_is
