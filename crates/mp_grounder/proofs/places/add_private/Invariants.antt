use Rattle.mp_grounder.proofs.Basics.{◌≡◌, ◌++◌, take, private_numbers}
use Rattle.mp_grounder.proofs.places.add_private.Given as goal

abbrev pub invariant-loop-number : goal.invariant-loop-number
invariant-loop-number l = l.out.items ≡ l.fn.out.items ++ private_numbers l.places (take l.number-index l.numbers)
