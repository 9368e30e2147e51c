use Rattle.std.proofs.Common.{◌≡◌, take}
use Rattle.mp_stamps.specs.Lists.{entries}
use Rattle.mp_post.proofs.closing.entries_of.Given as goal

abbrev pub invariant-loop-stamped : goal.invariant-loop-stamped
invariant-loop-stamped l = l.all ≡ entries (take l.stamped-index l.stamped-items)
