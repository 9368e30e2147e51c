use Rattle.std.proofs.Common.{◌≡◌, take}
use Rattle.mp_checker.proofs.at.list_of.Given as goal

abbrev pub invariant-loop-number : goal.invariant-loop-number
invariant-loop-number l = l.list ≡ take l.number-index l.numbers
