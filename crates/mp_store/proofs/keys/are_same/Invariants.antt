use Rattle.std.proofs.Common.{◌≡◌, take}
use Rattle.mp_store.proofs.keys.are_same.Given as goal

abbrev pub invariant-loop-at : goal.invariant-loop-at
invariant-loop-at l = take l.at l.tags ≡ take l.at l.others
