use Rattle.std.proofs.Common.{◌≤◌, Some, ap, sym, subst, ◌∙◌}
use Rattle.mp_estimates.specs.Lowering.{value_at}
use Rattle.mp_relaxed.specs.Relaxed.{AreCheaper, RelaxedProblem, state_of}
use Rattle.mp_relaxed.specs.Search.{AreValues}
use Rattle.mp_relaxed.specs.Values.{greatest}
use Rattle.mp_lmcut.specs.Cut.{is_positive}
use Rattle.mp_lmcut.proofs.RoundLemmas.{cuts_end, cuts_more, left_paid, left_some}
use Rattle.mp_lmcut.proofs.rounds.round.Goals as goal

pub returns-then-not-is_left-clause-paid : goal.returns-then-not-is_left-clause-paid
returns-then-not-is_left-clause-paid c =
    let r = c.args.problem.now in
    let s = state_of r c.args.publics.now.members c.args.privates.now.members in
    let found = c.greatest-value.ensures ∙ (λ i. greatest (λ x. c.requires.values x i) (c.goals.ensures.value i)) in
    cuts_end r.operators r.goals s (sym (c.is_left.ensures ∙ ap is_positive found) ∙ c.if-not-is_left.true)

pub returns-clause-paid : goal.returns-clause-paid
returns-clause-paid c =
    let r = c.args.problem.now in
    let p = c.args.publics.now.members in
    let q = c.args.privates.now.members in
    let found = c.greatest-value.ensures ∙ (λ i. greatest (λ x. c.requires.values x i) (c.goals.ensures.value i)) in
    cuts_more r c.lower.new.problem p q c.in_ok-cost.cost (sym (c.is_left.ensures ∙ ap is_positive found) ∙ c.if-not-is_left.false) c.in_ok-cost.ensures.cost c.in_ok-cost.ensures.lowered

pub returns-clause-values : goal.returns-clause-values
returns-clause-values c =
    let r = c.args.problem.now in
    let p = c.args.publics.now.members in
    let q = c.args.privates.now.members in
    let back = ap (λ (m : RelaxedProblem). record m { operators = r.operators }) c.in_ok-cost.ensures.lowered in
    c.in_ok-again.ensures.values r.operators p q
    (subst (AreCheaper r.operators c.lower.new.problem.operators) (sym c.as_slice.ensures.value) c.in_ok-cost.ensures.listed)
    (subst (λ (m : RelaxedProblem). AreValues m p q c.args.search.now.numbers) (sym back) c.requires.values)

pub lower-requires-clause-paid : goal.lower-requires-clause-paid
lower-requires-clause-paid c =
    ap (λ l. greatest (value_at l) c.args.problem.now.goals) c.numbers.ensures
    ∙ sym (c.greatest-value.ensures ∙ ap (greatest (value_at c.args.search.now.numbers)) c.goals.ensures.value)
    ∙ left_paid c.greatest-value.result (sym c.is_left.ensures ∙ c.if-not-is_left.false)
    ∙ ap Some (sym c.unwrap_or-most.ensures)

pub lower-requires-clause-some : goal.lower-requires-clause-some
lower-requires-clause-some c =
    subst (λ n. 1 ≤ n) (sym c.unwrap_or-most.ensures) (left_some c.greatest-value.result (sym c.is_left.ensures ∙ c.if-not-is_left.false))
