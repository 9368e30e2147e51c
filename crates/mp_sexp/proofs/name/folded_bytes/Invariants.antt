use Rattle.std.proofs.Common.{◌≡◌, take}
use Rattle.mp_sexp.specs.Bytes.{folded}
use Rattle.mp_sexp.specs.Name.{HasNoCapitals}
use Rattle.mp_sexp.proofs.name.folded_bytes.Given as goal

abbrev pub invariant-loop-byte : goal.invariant-loop-byte
invariant-loop-byte l = record { value : l.out.items ≡ folded (take l.byte-index l.bytes); small : HasNoCapitals l.out.items }
