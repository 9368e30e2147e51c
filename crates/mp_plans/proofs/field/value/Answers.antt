use Rattle.std.proofs.Common.{arith}
use Rattle.mp_plans.proofs.NumberLemmas.{too_large}
use Rattle.mp_plans.proofs.field.value.Goals as goal

pub returns-then-number-ge-BOUND : goal.returns-then-number-ge-BOUND
returns-then-number-ge-BOUND c =
    too_large _ _ _ c.args.digits.now c.loop-digit-test.true c.loop-digit.invariant.0
    (omega (arith, c.if-number-ge-BOUND.true, c.from.ensures, c.saturating_sub.ensures))
