use Rattle.std.proofs.Common.{◌≡◌, true, take, All}
use Rattle.mp_post.proofs.ring.are_marked.Given as goal

abbrev pub invariant-loop-place : goal.invariant-loop-place
invariant-loop-place l = All (λ mark. mark ≡ true) (take l.place l.marks)
