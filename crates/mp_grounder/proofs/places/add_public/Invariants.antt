use Rattle.mp_grounder.proofs.Basics.{◌≡◌, ◌++◌, take, public_numbers}
use Rattle.mp_grounder.proofs.places.add_public.Given as goal

abbrev pub invariant-loop-number : goal.invariant-loop-number
invariant-loop-number l = l.out.items ≡ l.fn.out.items ++ public_numbers l.places (take l.number-index l.numbers)
