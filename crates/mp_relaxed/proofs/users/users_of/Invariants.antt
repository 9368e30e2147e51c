use Rattle.mp_relaxed.proofs.UserLemmas.{Noted}
use Rattle.mp_relaxed.proofs.users.users_of.Given as goal

abbrev pub invariant-loop-k : goal.invariant-loop-k
invariant-loop-k l = Noted l.facts l.pres l.k l.lists.items
