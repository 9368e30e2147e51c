use Rattle.mp_grounder.proofs.Basics.{◌≡◌, map, take, name_at}
use Rattle.mp_grounder.proofs.names.copied_names.Given as goal

abbrev pub invariant-loop-number : goal.invariant-loop-number
invariant-loop-number l = l.list ≡ map (name_at l.names) (take l.number-index l.numbers)
