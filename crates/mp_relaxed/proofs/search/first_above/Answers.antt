use Rattle.std.proofs.Common.{◌<◌, ◌≤◌, All, get_or, length, subst}
use Rattle.std.proofs.lemmas.List.{get_or_default, take_all}
use Rattle.std.proofs.lemmas.List.Elements.{All-more}
use Rattle.mp_estimates.specs.Lowering.{number_at, unknown}
use Rattle.mp_relaxed.proofs.search.first_above.Goals as goal

pub loop-at-preserved : goal.loop-at-preserved
loop-at-preserved c =
    let numbers = c.args.numbers.now in
    let facts = c.args.facts.now in
    let i = c.loop-at.at in
    let inside : get_or facts i 0 < length numbers = c.requires i 0 c.loop-at-test.true in
    All-more (λ x. number_at numbers x ≤ c.args.cost) facts i 0 c.loop-at-test.true c.loop-at.invariant
    (subst (λ n. n ≤ c.args.cost) (get_or_default numbers (get_or facts i 0) 0 unknown inside) c.if-cost-numbers.false)

pub returns : goal.returns
returns c =
    subst (All (λ x. number_at c.args.numbers.now x ≤ c.args.cost)) (take_all c.loop-at.at c.args.facts.now c.loop-at-test.false) c.loop-at.invariant
