use Rattle.std.proofs.Common.{ap, sym, ◌∙◌}
use Rattle.mp_estimates.specs.Lowering.{value_at}
use Rattle.mp_lmcut.specs.Cut.{all_valued}
use Rattle.mp_lmcut.proofs.SupportLemmas.{support_valued}
use Rattle.mp_lmcut.proofs.supports.valued_support_of.Goals as goal

pub returns-then-not-is_known-clause-none : goal.returns-then-not-is_known-clause-none
returns-then-not-is_known-clause-none c =
    let v = value_at c.args.numbers.now in
    sym (support_valued v c.args.pre.now) ∙ ap (all_valued v) (sym c.support_of-found.ensures.value) ∙ sym c.is_known.ensures ∙ c.if-not-is_known.true

pub returns-clause-valued : goal.returns-clause-valued
returns-clause-valued c =
    let v = value_at c.args.numbers.now in
    sym (support_valued v c.args.pre.now) ∙ ap (all_valued v) (sym c.support_of-found.ensures.value) ∙ sym c.is_known.ensures ∙ c.if-not-is_known.false
