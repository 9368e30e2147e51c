use Rattle.mp_audit.proofs.ChainLemmas.{IsWalk}
use Rattle.mp_audit.proofs.chains.find.Given as goal

abbrev pub invariant-loop-number : goal.invariant-loop-number
invariant-loop-number l = IsWalk l.tasks l.bounds.entries l.chains l.agent l.state l.number

abbrev pub decreases-loop-number : goal.decreases-loop-number
decreases-loop-number l = l.number
