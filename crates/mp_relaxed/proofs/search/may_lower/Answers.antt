use Rattle.std.proofs.Common.{◌+◌, ◌<◌, ◌≤◌, All, get_or, length, ◌∙◌, subst, arith}
use Rattle.std.proofs.lemmas.List.{get_or_default, take_all}
use Rattle.std.proofs.lemmas.List.Elements.{All-more}
use Rattle.mp_estimates.specs.Estimates.{AtMost}
use Rattle.mp_estimates.specs.Lowering.{known, number_at, unknown, value_at}
use Rattle.mp_relaxed.specs.Relaxed.{operator_at}
use Rattle.mp_relaxed.proofs.AgainLemmas.{numbers_low}
use Rattle.mp_relaxed.proofs.search.may_lower.Goals as goal

pub loop-y-preserved : goal.loop-y-preserved
loop-y-preserved c =
    let numbers = c.args.numbers.now in
    let items = c.add-y-items.result.now in
    let i = c.loop-y.y-index in
    let below = c.add-y-items.ensures.below i 0 c.loop-y-test.true in
    let inside : get_or items i 0 < length numbers = omega (arith, below, c.requires.sized) in
    All-more (λ y. number_at numbers y ≤ c.cost-own.result + c.args.least) items i 0 c.loop-y-test.true c.loop-y.invariant
    (subst (λ n. n ≤ c.cost-own.result + c.args.least) (get_or_default numbers (get_or items i 0) 0 unknown inside) c.if-cost-numbers.false)

pub returns-after-loop-y : goal.returns-after-loop-y
returns-after-loop-y c = λ _.
    let numbers = c.args.numbers.now in
    let added = (operator_at c.args.problem.now.operators c.args.k).add in
    let items = c.add-y-items.result.now in
    let low = subst (All (λ y. number_at numbers y ≤ c.cost-own.result + c.args.least)) (take_all c.loop-y.y-index items c.loop-y-test.false ∙ c.add-y-items.ensures.value) c.loop-y.invariant in
    subst (λ n. All (λ y. AtMost (value_at numbers y) (known (n + c.args.least))) added) c.cost-own.ensures
    (numbers_low numbers added (c.cost-own.result + c.args.least) low)
