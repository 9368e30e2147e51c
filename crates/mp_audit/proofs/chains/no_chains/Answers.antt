use Rattle.std.proofs.Common.{ap, length, arith}
use Rattle.mp_audit.proofs.ChainLemmas.{none_chained}
use Rattle.mp_audit.proofs.chains.no_chains.Goals as goal

pub returns-clause-chained : goal.returns-clause-chained
returns-clause-chained c = λ tasks bounds.
    none_chained tasks bounds _ c.max-places.result (let is = c.max-places.ensures in omega (arith, is)) c.in_ok-last.ensures (ap length c.in_ok-before.ensures.items)
