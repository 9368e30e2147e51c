use Rattle.std.proofs.Common.{◌≡◌, ◌≤◌, length, take}
use Rattle.mp_post.specs.Growth.{without_all}
use Rattle.mp_post.proofs.growth.remove_all.Given as goal

abbrev pub invariant-loop-left : goal.invariant-loop-left
invariant-loop-left l = record {
  within : l.left ≤ length l.entries;
  queues : length l.waiting ≡ length l.fn.waiting;
  removed : without_all (take l.left l.entries) l.waiting ≡ without_all l.entries l.fn.waiting;
}

abbrev pub decreases-loop-left : goal.decreases-loop-left
decreases-loop-left l = l.left
