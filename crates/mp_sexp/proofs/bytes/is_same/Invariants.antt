use Rattle.std.proofs.Common.{◌≡◌, length}
use Rattle.mp_sexp.specs.Name.{same_bytes}
use Rattle.mp_sexp.proofs.bytes.is_same.Given as goal

-- what is left decides as the whole does
abbrev pub invariant-loop-left : goal.invariant-loop-left
invariant-loop-left l = same_bytes l.a l.b ≡ same_bytes l.left l.right

abbrev pub decreases-loop-left : goal.decreases-loop-left
decreases-loop-left l = length l.left
