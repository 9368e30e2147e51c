use Rattle.std.proofs.Common.{◌≡◌, drop}
use Rattle.mp_text.specs.Reading.{text_behind}
use Rattle.mp_certificates.proofs.numbers.behind_all.Given as goal

-- what is left of the head decides
abbrev pub invariant-loop-byte : goal.invariant-loop-byte
invariant-loop-byte l = text_behind (drop l.byte-index l.head) l.rest ≡ text_behind l.head l.text
