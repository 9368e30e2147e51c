use Rattle.std.proofs.Common.{sym, ◌∙◌}
use Rattle.std.proofs.lemmas.Bool.{both_ways}
use Rattle.mp_relaxed.specs.Relaxed.{operator_at}
use Rattle.mp_estimates.specs.Lowering.{value_at}
use Rattle.mp_lmcut.specs.Cut.{in_cut}
use Rattle.mp_lmcut.proofs.EndLemmas.{free_left_out}
use Rattle.mp_lmcut.proofs.ListedLemmas.{cut_from, noted_here, noted_one}
use Rattle.mp_lmcut.proofs.costs.note.Goals as goal

pub returns-clause-noted : goal.returns-clause-noted
returns-clause-noted c = λ s h.
    let v = value_at c.args.numbers.now in
    let os = c.args.problem.now.operators in
    let goals = c.args.problem.now.goals in
    let same = c.in_ok-found.ensures.value s h ∙ cut_from v os goals s (operator_at os c.args.k) c.requires.enters in
    noted_one (in_cut v os goals s) os c.args.k c.args.cut.now.items c.args.costs.now.items c.put.new.cut.items c.put.new.costs.items c.requires.operator
    (λ e. c.in_ok-put.ensures.inside (same ∙ e))
    (λ e. c.in_ok-put.ensures.outside (same ∙ e))

pub returns-clause-here : goal.returns-clause-here
returns-clause-here c = λ s h.
    let v = value_at c.args.numbers.now in
    let os = c.args.problem.now.operators in
    let goals = c.args.problem.now.goals in
    let same = c.in_ok-found.ensures.value s h ∙ cut_from v os goals s (operator_at os c.args.k) c.requires.enters in
    noted_here (in_cut v os goals s) os c.args.k c.args.cut.now.items c.args.costs.now.items c.put.new.cut.items c.put.new.costs.items c.requires.operator
    (λ e. c.in_ok-put.ensures.inside (same ∙ e))

pub returns-then-cost-eq0-clause-here : goal.returns-then-cost-eq0-clause-here
returns-then-cost-eq0-clause-here c = λ s h e.
    let v = value_at c.args.numbers.now in
    let os = c.args.problem.now.operators in
    let goals = c.args.problem.now.goals in
    let outside = free_left_out v os goals c.args.most s h c.args.k c.requires.operator (sym c.cost.ensures ∙ c.if-cost-eq0.true) in
    absurd (both_ways (in_cut v os goals s (operator_at os c.args.k)) outside e)
