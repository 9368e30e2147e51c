use Rattle.std.proofs.Common.{◌≡◌, replicate}
use Rattle.mp_post.proofs.opening.marks.Given as goal

abbrev pub invariant-loop : goal.invariant-loop
invariant-loop l = l.marks.items ≡ replicate l.counter l.mark
