use Rattle.std.proofs.Common.{◌≡◌, take}
use Rattle.mp_post.specs.Growth.{with_all}
use Rattle.mp_post.proofs.growth.add_all.Given as goal

abbrev pub invariant-loop-at : goal.invariant-loop-at
invariant-loop-at l = l.waiting ≡ with_all l.clock (take l.at l.batch) l.fn.waiting
