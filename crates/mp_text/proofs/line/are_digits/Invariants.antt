use Rattle.std.proofs.Common.{◌≡◌, take}
use Rattle.std.specs.List.{list_all}
use Rattle.mp_text.specs.Schedule.{is_hexadecimal_digit}
use Rattle.mp_text.proofs.line.are_digits.Given as goal

-- of those so far
abbrev pub invariant-loop-byte : goal.invariant-loop-byte
invariant-loop-byte l = l.all ≡ list_all is_hexadecimal_digit (take l.byte-index l.text)
