use Rattle.std.proofs.Common.{◌<◌, length}
use Rattle.mp_relaxed.proofs.kept.find_place.Given as goal

abbrev pub invariant-steps : goal.invariant-steps
invariant-steps l = l.place < length l.places
