use Rattle.mp_typing.proofs.Basics.{◌≡◌, take}
use Rattle.mp_typing.proofs.listed.list_of.Given as goal

abbrev pub invariant-loop-number : goal.invariant-loop-number
invariant-loop-number l = l.list ≡ take l.number-index l.numbers
