use Rattle.std.proofs.Common.{◌≡◌, ◌++◌, take}
use Rattle.mp_certificates.proofs.write.push_digits.Given as goal

-- the text has grown by the digits so far
abbrev pub invariant-loop-digit : goal.invariant-loop-digit
invariant-loop-digit l = l.text ≡ l.fn.text ++ take l.digit-index l.digits
