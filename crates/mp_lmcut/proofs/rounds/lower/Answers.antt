use Rattle.std.proofs.Common.{◌<◌, ◌≤◌, All, length, map, ap, sym, ◌∙◌, subst}
use Rattle.mp_relaxed.specs.Relaxed.{AreCheaper, RelaxedProblem, operator_at, state_of}
use Rattle.mp_estimates.specs.Lowering.{value_at}
use Rattle.mp_lmcut.specs.Cut.{in_cut}
use Rattle.mp_lmcut.specs.Sides.{HasZone, costless}
use Rattle.mp_lmcut.proofs.CostLemmas.{costless_cheaper, length-priced_by}
use Rattle.mp_lmcut.proofs.ListedLemmas.{cheaper_listed, least_paid, lowered_to}
use Rattle.mp_lmcut.proofs.RoundLemmas.{cost_is, cost_small, lowered_is}
use Rattle.mp_lmcut.proofs.rounds.lower.Goals as goal

pub list_cut-requires-clause-inside : goal.list_cut-requires-clause-inside
list_cut-requires-clause-inside c =
    subst (HasZone (value_at c.args.numbers.now) c.args.problem.now.operators c.args.problem.now.goals c.args.problem.now.facts)
    (sym c.as_slice.ensures.value) c.in_ok-mark_zone.ensures.listed

pub pay-requires-clause-operators : goal.pay-requires-clause-operators
pay-requires-clause-operators c =
    let r = c.args.problem.now in
    let s = state_of r c.args.publics.now.members c.args.privates.now.members in
    let such = in_cut (value_at c.args.numbers.now) r.operators r.goals s in
    let listed = c.in_ok-list_cut.ensures.listed s (record { same = c.requires.values; paid = c.requires.paid; some = c.requires.some }) in
    subst (All (λ k. k < length c.args.problem.now.operators)) (sym c.as_slice-2.ensures.value) listed.below

pub pay-requires-clause-costs : goal.pay-requires-clause-costs
pay-requires-clause-costs c =
    let r = c.args.problem.now in
    let s = state_of r c.args.publics.now.members c.args.privates.now.members in
    let such = in_cut (value_at c.args.numbers.now) r.operators r.goals s in
    let listed = c.in_ok-list_cut.ensures.listed s (record { same = c.requires.values; paid = c.requires.paid; some = c.requires.some }) in
    c.as_slice-3.ensures.value
    ∙ listed.paid
    ∙ ap (map (λ k. (operator_at c.args.problem.now.operators k).cost)) (sym c.as_slice-2.ensures.value)

pub returns-clause-cost : goal.returns-clause-cost
returns-clause-cost c =
    let r = c.args.problem.now in
    let s = state_of r c.args.publics.now.members c.args.privates.now.members in
    let such = in_cut (value_at c.args.numbers.now) r.operators r.goals s in
    let listed = c.in_ok-list_cut.ensures.listed s (record { same = c.requires.values; paid = c.requires.paid; some = c.requires.some }) in
    let all = c.in_ok-list_cut.ensures.all s (record { same = c.requires.values; paid = c.requires.paid; some = c.requires.some }) in
    c.pay.ensures.cost
    ∙ least_paid such r.operators c.list_cut.new.cut.items c.list_cut.new.costs.items listed all c.as_slice-3.result.now c.as_slice-3.ensures.value
    ∙ cost_is r s c.args.numbers.now c.requires.values

pub returns-clause-lowered : goal.returns-clause-lowered
returns-clause-lowered c =
    let r = c.args.problem.now in
    let s = state_of r c.args.publics.now.members c.args.privates.now.members in
    let such = in_cut (value_at c.args.numbers.now) r.operators r.goals s in
    let listed = c.in_ok-list_cut.ensures.listed s (record { same = c.requires.values; paid = c.requires.paid; some = c.requires.some }) in
    let all = c.in_ok-list_cut.ensures.all s (record { same = c.requires.values; paid = c.requires.paid; some = c.requires.some }) in
    let is = lowered_to such r c.pay.new.problem c.list_cut.new.cut.items c.list_cut.new.costs.items c.as_slice-2.result.now c.pay.result listed all c.as_slice-2.ensures.value c.pay.ensures.lowered in
    is
    ∙ ap (λ os. record r { operators = os })
    (lowered_is r s c.args.numbers.now c.requires.values c.pay.result
    (c.pay.ensures.cost
    ∙ least_paid such r.operators c.list_cut.new.cut.items c.list_cut.new.costs.items listed all c.as_slice-3.result.now c.as_slice-3.ensures.value
    ∙ cost_is r s c.args.numbers.now c.requires.values))

pub returns-clause-small : goal.returns-clause-small
returns-clause-small c =
    let r = c.args.problem.now in
    let s = state_of r c.args.publics.now.members c.args.privates.now.members in
    let such = in_cut (value_at c.args.numbers.now) r.operators r.goals s in
    let listed = c.in_ok-list_cut.ensures.listed s (record { same = c.requires.values; paid = c.requires.paid; some = c.requires.some }) in
    let all = c.in_ok-list_cut.ensures.all s (record { same = c.requires.values; paid = c.requires.paid; some = c.requires.some }) in
    let least = c.pay.ensures.cost
    ∙ least_paid such r.operators c.list_cut.new.cut.items c.list_cut.new.costs.items listed all c.as_slice-3.result.now c.as_slice-3.ensures.value in
    subst (λ n. n ≤ 16000000) (sym least) (cost_small such r.operators 16000000 c.operators.ensures.cheap)

pub returns-clause-kept : goal.returns-clause-kept
returns-clause-kept c =
    let r = c.args.problem.now in
    let s = state_of r c.args.publics.now.members c.args.privates.now.members in
    let such = in_cut (value_at c.args.numbers.now) r.operators r.goals s in
    let listed = c.in_ok-list_cut.ensures.listed s (record { same = c.requires.values; paid = c.requires.paid; some = c.requires.some }) in
    let all = c.in_ok-list_cut.ensures.all s (record { same = c.requires.values; paid = c.requires.paid; some = c.requires.some }) in
    let is = lowered_to such r c.pay.new.problem c.list_cut.new.cut.items c.list_cut.new.costs.items c.as_slice-2.result.now c.pay.result listed all c.as_slice-2.ensures.value c.pay.ensures.lowered in
    ap costless is ∙ costless_cheaper such c.pay.result r

pub returns-clause-listed : goal.returns-clause-listed
returns-clause-listed c =
    let r = c.args.problem.now in
    let s = state_of r c.args.publics.now.members c.args.privates.now.members in
    let such = in_cut (value_at c.args.numbers.now) r.operators r.goals s in
    let listed = c.in_ok-list_cut.ensures.listed s (record { same = c.requires.values; paid = c.requires.paid; some = c.requires.some }) in
    let all = c.in_ok-list_cut.ensures.all s (record { same = c.requires.values; paid = c.requires.paid; some = c.requires.some }) in
    let is = lowered_to such r c.pay.new.problem c.list_cut.new.cut.items c.list_cut.new.costs.items c.as_slice-2.result.now c.pay.result listed all c.as_slice-2.ensures.value c.pay.ensures.lowered in
    subst (λ os. AreCheaper r.operators os c.list_cut.new.cut.items) (sym (ap (λ (m : RelaxedProblem). m.operators) is))
    (cheaper_listed such c.pay.result r.operators c.list_cut.new.cut.items all)

pub returns-clause-below : goal.returns-clause-below
returns-clause-below c =
    let r = c.args.problem.now in
    let s = state_of r c.args.publics.now.members c.args.privates.now.members in
    let such = in_cut (value_at c.args.numbers.now) r.operators r.goals s in
    let listed = c.in_ok-list_cut.ensures.listed s (record { same = c.requires.values; paid = c.requires.paid; some = c.requires.some }) in
    let all = c.in_ok-list_cut.ensures.all s (record { same = c.requires.values; paid = c.requires.paid; some = c.requires.some }) in
    let is = lowered_to such r c.pay.new.problem c.list_cut.new.cut.items c.list_cut.new.costs.items c.as_slice-2.result.now c.pay.result listed all c.as_slice-2.ensures.value c.pay.ensures.lowered in
    let same = ap (λ (m : RelaxedProblem). length m.operators) is ∙ length-priced_by _ r.operators in
    subst (λ n. All (λ k. k < n) c.list_cut.new.cut.items) (sym same) listed.below
