use Rattle.mp_ground_laws.proofs.Basics.{All, subst, take_all, IsChecked}
use Rattle.std.proofs.lemmas.List.Elements.{All-more}
use Rattle.mp_ground_laws.proofs.laws.checked_factors_are_checked.Goals as goal

pub loop-factor-preserved : goal.loop-factor-preserved
loop-factor-preserved c =
    All-more IsChecked c.args.factors.now c.loop-factor.factor-index c.factor-item.result c.loop-factor-test.true
    c.loop-factor.invariant (subst IsChecked c.factor-item.is c.checked_factor_is_checked.ensures)

pub returns : goal.returns
returns c =
    subst (All IsChecked) (take_all c.loop-factor.factor-index c.args.factors.now c.loop-factor-test.false)
    c.loop-factor.invariant
