use Rattle.std.proofs.Common.{◌+◌, All, ◌∙◌, subst, arith}
use Rattle.std.proofs.lemmas.List.{get_or_default}
use Rattle.mp_estimates.specs.Estimates.{AtMost}
use Rattle.mp_estimates.specs.Lowering.{known, unknown, value_at}
use Rattle.mp_relaxed.specs.Relaxed.{operator_at}
use Rattle.mp_relaxed.proofs.AgainLemmas.{passed_served}
use Rattle.mp_relaxed.proofs.search.relax_user.Goals as goal

pub returns-then-not-may_lower-clause-served : goal.returns-then-not-may_lower-clause-served
returns-then-not-may_lower-clause-served c =
    let os = c.args.problem.now.operators in
    let numbers = c.args.numbers.now.items in
    let o = operator_at os c.args.k in
    let at = c.index-least.ensures ∙ get_or_default numbers c.args.x c.index-least.result.now unknown (omega (arith, c.requires.inside, c.requires.sized)) in
    let low = subst (λ l. All (λ y. AtMost (value_at l y) (known (o.cost + c.index-least.result.now))) o.add) c.as_slice.ensures.value (c.may_lower.ensures c.if-not-may_lower.true) in
    passed_served os numbers c.args.queue.now c.args.k c.args.x c.requires.precondition
    (subst (λ n. All (λ y. AtMost (value_at numbers y) (known (o.cost + n))) o.add) at low)
