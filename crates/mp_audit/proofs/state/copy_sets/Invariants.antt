use Rattle.std.proofs.Common.{◌≡◌, ◌++◌, drop, take}
use Rattle.mp_audit.proofs.state.copy_sets.Given as goal

abbrev pub invariant-loop-place : goal.invariant-loop-place
invariant-loop-place l = l.copies.items ≡ take l.place l.sets ++ drop l.place l.initial.copies.items
