use Rattle.mp_views.proofs.Basics.{◌≡◌, ◌++◌, take}
use Rattle.mp_views.proofs.open.add_copies.Given as goal

abbrev pub invariant-loop-name : goal.invariant-loop-name
invariant-loop-name l = l.out.items ≡ l.fn.out.items ++ take l.name-index l.names
