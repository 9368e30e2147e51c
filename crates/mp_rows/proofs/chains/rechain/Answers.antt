use Rattle.mp_rows.proofs.chains.rechain.Goals as goal
use Rattle.mp_rows.proofs.ChainLemmas.{chained_none}

pub chain_all-requires-clause-empty : goal.chain_all-requires-clause-empty
chain_all-requires-clause-empty c = chained_none c.in_ok-more.more.items c.args.links.now.items c.in_ok-more.ensures.empty
