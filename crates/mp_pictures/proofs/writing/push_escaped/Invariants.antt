use Rattle.std.proofs.Common.{◌≡◌, ◌++◌, drop}
use Rattle.std.specs.List.{flat_map}
use Rattle.mp_pictures.specs.Escaped.{escaped_byte}
use Rattle.mp_pictures.proofs.writing.push_escaped.Given as goal

abbrev pub invariant-loop-byte : goal.invariant-loop-byte
invariant-loop-byte l = l.out ++ flat_map escaped_byte (drop l.byte-index l.text) ≡ l.fn.out ++ flat_map escaped_byte l.text
