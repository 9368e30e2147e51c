use Rattle.mp_audit.proofs.SameLemmas.{IsWalked}
use Rattle.mp_audit.proofs.same_state.is_set.Given as goal

abbrev pub invariant-loop-fact : goal.invariant-loop-fact
invariant-loop-fact l = IsWalked l.facts l.set.members l.fact-index l.from
