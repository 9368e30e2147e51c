use Rattle.mp_applicable.proofs.ListingLemmas.{AreListedBelow}
use Rattle.mp_applicable.proofs.building.lists_of.Given as goal

abbrev pub invariant-loop-number : goal.invariant-loop-number
invariant-loop-number l = AreListedBelow l.task l.number l.lists
