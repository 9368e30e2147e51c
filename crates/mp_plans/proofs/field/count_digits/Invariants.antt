use Rattle.std.proofs.Common.{◌≡◌, ◌+◌, drop}
use Rattle.std.specs.List.{prefix_len}
use Rattle.mp_forms.specs.Words.{is_digit as is_digit_byte}
use Rattle.mp_plans.proofs.field.count_digits.Given as goal

-- only digits so far
abbrev pub invariant-loop-before : goal.invariant-loop-before
invariant-loop-before l = prefix_len is_digit_byte l.text ≡ l.before + prefix_len is_digit_byte (drop l.before l.text)
