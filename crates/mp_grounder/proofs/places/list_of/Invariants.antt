use Rattle.mp_grounder.proofs.Basics.{◌≡◌, take}
use Rattle.mp_grounder.proofs.places.list_of.Given as goal

abbrev pub invariant-loop-number : goal.invariant-loop-number
invariant-loop-number l = l.list ≡ take l.number-index l.numbers
