use Rattle.mp_factor.proofs.Basics.{ℕ, ◌+◌, ◌*◌, ap, ◌∙◌, arith, min}
use Rattle.mp_factor.proofs.NumberLemmas.{goes_on}
use Rattle.mp_factor.proofs.numbers.least_value.Goals as goal

pub loop-digit-preserved : goal.loop-digit-preserved
loop-digit-preserved c = record {
  small = omega (arith, c.min-value.ensures);
  value =
      goes_on c.loop-digit.value _ _ c.args.digits.now c.loop-digit.digit-index c.loop-digit-test.true
      (c.min-value.ensures ∙ ap (λ (d : ℕ). min (c.loop-digit.value * 10 + d) 1000001) c.saturating_sub.ensures) c.loop-digit.invariant.value;
}
