use Rattle.std.proofs.Common.{◌≡◌, map, take}
use Rattle.mp_stamps.proofs.merging.rests_of.Given as goal

abbrev pub invariant-loop-list : goal.invariant-loop-list
invariant-loop-list l = map (λ rest. rest.now) l.rests.items ≡ take l.list-index l.list-items
