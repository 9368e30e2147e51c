use Rattle.std.proofs.Common.{◌≡◌, map, take}
use Rattle.mp_stamps.specs.Lists.{entries}
use Rattle.mp_post.proofs.closing.all_entries.Given as goal

abbrev pub invariant-loop-list : goal.invariant-loop-list
invariant-loop-list l = l.all ≡ map entries (take l.list-index l.list-items)
