use Rattle.mp_lifting.proofs.Basics.{◌≡◌, take}
use Rattle.mp_lifting.proofs.members.short_numbers.Given as goal

abbrev pub invariant-loop-number : goal.invariant-loop-number
invariant-loop-number l = l.made ≡ take l.number-index l.numbers
