use Rattle.std.proofs.Common.{◌≡◌, ◌++◌, take}
use Rattle.mp_audit.proofs.flat_lists.FlatLists.extend.Given as goal

abbrev pub invariant-loop-at : goal.invariant-loop-at
invariant-loop-at l = l.self ≡ l.initial.self ++ take l.at l.others
