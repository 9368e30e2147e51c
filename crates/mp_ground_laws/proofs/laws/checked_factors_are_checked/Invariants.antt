use Rattle.mp_ground_laws.proofs.Basics.{All, take, IsChecked}
use Rattle.mp_ground_laws.proofs.laws.checked_factors_are_checked.Given as goal

abbrev pub invariant-loop-factor : goal.invariant-loop-factor
invariant-loop-factor l = All IsChecked (take l.factor-index l.factors)
