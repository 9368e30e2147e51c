use Rattle.mp_grounder.proofs.Basics.{◌≡◌, map, take, number_in}
use Rattle.mp_grounder.proofs.texts.numbers_in.Given as goal

abbrev pub invariant-loop-name : goal.invariant-loop-name
invariant-loop-name l = l.numbers ≡ map (number_in l.names) (take l.name-index l.some)
