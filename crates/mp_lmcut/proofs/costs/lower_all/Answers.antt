use Rattle.std.proofs.Common.{◌-◌, ◌≤◌, eqb, take, get_or, length, ap, sym, ◌∙◌, subst, arith}
use Rattle.std.proofs.lemmas.List.{get_or-map, length-map, take_all}
use Rattle.std.specs.List.{list_any}
use Rattle.mp_relaxed.specs.Relaxed.{RelaxedProblem, operator_at}
use Rattle.mp_lmcut.specs.Sides.{lowered_at}
use Rattle.mp_lmcut.proofs.CutLemmas.{cost_lowered, length-lowered_at, lowered_next, lowered_none}
use Rattle.mp_lmcut.proofs.costs.lower_all.Goals as goal

pub loop-i-init : goal.loop-i-init
loop-i-init c = ap (λ os. record c.args.problem.now { operators = os }) (sym (lowered_none c.args.by c.args.problem.now.operators))

pub set_cost-requires-clause-operator : goal.set_cost-requires-clause-operator
set_cost-requires-clause-operator c =
    let long = ap (λ (m : RelaxedProblem). length m.operators) c.loop-i.invariant ∙ length-lowered_at _ c.args.by c.args.problem.now.operators in
    let within = c.requires.operators c.loop-i.i 0 (omega arith) in
    omega arith

pub set_cost-requires-clause-enough : goal.set_cost-requires-clause-enough
set_cost-requires-clause-enough c =
    let os = c.args.problem.now.operators in
    let k = get_or c.args.cut.now c.loop-i.i 0 in
    let is = ap (λ (m : RelaxedProblem). (operator_at m.operators k).cost) c.loop-i.invariant in
    let low = cost_lowered (λ j. list_any (λ q. eqb q j) (take c.loop-i.i c.args.cut.now)) c.args.by os k in
    let own = ap (λ l. get_or l c.loop-i.i 0) c.requires.costs ∙ get_or-map (λ j. (operator_at os j).cost) c.args.cut.now c.loop-i.i 0 0 c.loop-i-test.true in
    omega arith

pub loop-i-preserved : goal.loop-i-preserved
loop-i-preserved c =
    let r = c.args.problem.now in
    let i = c.loop-i.i in
    let cut = c.args.cut.now in
    let k = get_or cut i 0 in
    let own = ap (λ l. get_or l i 0) c.requires.costs ∙ get_or-map (λ j. (operator_at r.operators j).cost) cut i 0 0 c.loop-i-test.true in
    let long = ap length c.requires.costs ∙ length-map cut (λ j. (operator_at r.operators j).cost) in
    let least = c.requires.enough i 0 (omega arith) in
    lowered_next r c.loop-i.problem c.set_cost.new.problem cut c.args.by i (get_or c.args.costs.now i 0 - c.args.by) c.loop-i-test.true
    (c.requires.operators i 0 c.loop-i-test.true)
    (subst (λ n. c.args.by ≤ n) own least)
    (ap (λ n. n - c.args.by) own) c.loop-i.invariant c.set_cost.ensures

pub returns : goal.returns
returns c =
    c.loop-i.invariant
    ∙ ap (λ l. record c.args.problem.now { operators = lowered_at (λ k. list_any (λ j. eqb j k) l) c.args.by c.args.problem.now.operators })
    (take_all c.loop-i.i c.args.cut.now (omega arith))
