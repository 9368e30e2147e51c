use Rattle.mp_relaxed.proofs.UserLemmas.{FreeSoFar}
use Rattle.mp_relaxed.proofs.users.free_of.Given as goal

abbrev pub invariant-loop-k : goal.invariant-loop-k
invariant-loop-k l = FreeSoFar l.pres l.k l.free.items
