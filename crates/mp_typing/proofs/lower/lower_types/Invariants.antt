use Rattle.mp_typing.proofs.Basics.{◌≡◌, found_after}
use Rattle.mp_typing.proofs.lower.lower_types.Given as goal

abbrev pub invariant-loop-place : goal.invariant-loop-place
invariant-loop-place l = l.found.keys ≡ found_after l.types l.asked l.place
