use Rattle.std.proofs.Common.{◌≡◌, ◌<◌, ◌^◌, drop}
use Rattle.mp_words.specs.Numbers.{number_from}
use Rattle.mp_words.proofs.numbers.spelled.Given as goal

-- what the digits that are left make of the number so far is what all digits make
abbrev pub invariant-loop-digit : goal.invariant-loop-digit
invariant-loop-digit l =
    (number_from 0 l.digits ≡ number_from l.number (drop l.digit-index l.digits)) × (l.number < 10 ^ l.digit-index)
