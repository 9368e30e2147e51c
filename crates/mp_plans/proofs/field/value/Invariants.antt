use Rattle.std.proofs.Common.{◌≡◌, ◌<◌, ◌^◌, drop}
use Rattle.mp_plans.specs.Fields.{number_from}
use Rattle.mp_plans.proofs.field.value.Given as goal

-- the number so far and the digits that are left make the whole
abbrev pub invariant-loop-digit : goal.invariant-loop-digit
invariant-loop-digit l =
    (number_from l.number (drop l.digit-index l.digits) ≡ number_from 0 l.digits) × (l.number < 2 ^ 60)
