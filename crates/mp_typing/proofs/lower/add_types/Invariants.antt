use Rattle.mp_typing.proofs.Basics.{◌≡◌, take, with_types}
use Rattle.mp_typing.proofs.lower.add_types.Given as goal

abbrev pub invariant-loop-name : goal.invariant-loop-name
invariant-loop-name l = l.found.keys ≡ with_types l.fn.found.keys (take l.name-index l.names)
