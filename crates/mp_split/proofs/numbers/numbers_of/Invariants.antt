use Rattle.mp_split.proofs.Basics.{◌≡◌, map, take, number_in}
use Rattle.mp_split.proofs.numbers.numbers_of.Given as goal

abbrev pub invariant-loop-text : goal.invariant-loop-text
invariant-loop-text l = l.numbers ≡ map (number_in l.table) (take l.text-index l.texts)
