use Rattle.mp_factor.proofs.Basics.{◌≡◌, ◌≤◌, drop, min, value_behind}
use Rattle.mp_factor.proofs.numbers.least_value.Given as goal

abbrev pub invariant-loop-digit : goal.invariant-loop-digit
invariant-loop-digit l = record {
  small : l.value ≤ 1000001;
  value : min (value_behind l.value (drop l.digit-index l.digits)) 1000001 ≡ min (value_behind 0 l.digits) 1000001;
}
