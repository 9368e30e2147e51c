use Rattle.std.proofs.Common.{◌≡◌, take, length}
use Rattle.mp_sexp.specs.Bytes.{folded}
use Rattle.mp_sexp.specs.Name.{HasNoCapitals}
use Rattle.mp_sexp.proofs.short.Short.fold_from.Given as goal

abbrev pub invariant-loop-at : goal.invariant-loop-at
invariant-loop-at l = record { value : take l.at l.room ≡ folded (take l.at l.bytes); small : HasNoCapitals (folded (take l.at l.bytes)); long : length l.room ≡ 22 }
