use Rattle.std.proofs.Common.{◌≡◌, ◌++◌, take}
use Rattle.std.specs.List.{flat_map}
use Rattle.mp_certificates.specs.Text.{blank_number}
use Rattle.mp_certificates.proofs.write.push_numbers.Given as goal

-- the text has grown by the numbers so far
abbrev pub invariant-loop-number : goal.invariant-loop-number
invariant-loop-number l = l.text ≡ l.fn.text ++ flat_map blank_number (take l.number-index l.numbers)
