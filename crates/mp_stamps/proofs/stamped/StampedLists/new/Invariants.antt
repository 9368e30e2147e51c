use Rattle.std.proofs.Common.{◌≡◌, [], replicate}
use Rattle.mp_stamps.proofs.stamped.StampedLists.new.Given as goal

abbrev pub invariant-loop : goal.invariant-loop
invariant-loop l = l.lists.items ≡ replicate l.counter []
