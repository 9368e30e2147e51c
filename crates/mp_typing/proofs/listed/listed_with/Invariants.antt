use Rattle.mp_typing.proofs.Basics.{◌≡◌, take, flat_map, items_of}
use Rattle.mp_typing.proofs.listed.listed_with.Given as goal

abbrev pub invariant-loop-name : goal.invariant-loop-name
invariant-loop-name l = l.numbers.items ≡ flat_map (items_of l.listed.entries) (take l.name-index l.types)
