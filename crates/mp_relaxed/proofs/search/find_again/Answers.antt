use Rattle.std.proofs.Common.{ap, length, arith}
use Rattle.mp_relaxed.specs.Relaxed.{state_of}
use Rattle.mp_relaxed.proofs.AgainLemmas.{again_below, again_served, again_zero}
use Rattle.mp_relaxed.proofs.Found.{found}
use Rattle.mp_relaxed.proofs.search.find_again.Goals as goal

pub settle_again-requires-clause-inside : goal.settle_again-requires-clause-inside
settle_again-requires-clause-inside c =
    let none = ap length c.clear.ensures in
    λ i d lt.
    let there = c.in_ok-relax_each.ensures.fallen.inside (λ j e less. absurd (omega arith)) i d lt in
    let same = c.relax_each.ensures.len in
    omega arith

pub returns-clause-values : goal.returns-clause-values
returns-clause-values c = λ before p q cheaper values.
    let os = c.args.problem.now.operators in
    let s = state_of c.args.problem.now p q in
    let old = c.args.numbers.now.items in
    found os s c.settle_again.new.numbers.items c.operators.ensures.few c.operators.ensures.cheap
    (λ x member.
    let first = again_zero before os c.args.cheaper.now cheaper s old values x member in
    let one = c.in_ok-relax_each.ensures.fallen.lower x in
    let two = c.in_ok-settle_again.ensures.lower x in
    omega arith)
    (λ w low zero.
    c.in_ok-settle_again.ensures.below w low
    (c.in_ok-relax_each.ensures.below w low
    (again_below before os c.args.cheaper.now cheaper s old values w low zero)))
    (c.in_ok-settle_again.ensures.served
    (again_served before os c.args.cheaper.now cheaper s old values c.clear.new.self c.relax_each.new.numbers.items c.relax_each.new.queue c.in_ok-relax_each.ensures.fallen c.in_ok-relax_each.ensures.served))
