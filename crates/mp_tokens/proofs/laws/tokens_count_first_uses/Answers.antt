use Rattle.mp_tokens.proofs.Orders.{start_is_0, first_use}
use Rattle.mp_tokens.proofs.laws.tokens_count_first_uses.Goals as goal

pub returns-clause-initial : goal.returns-clause-initial
returns-clause-initial c = start_is_0

pub returns-clause-other : goal.returns-clause-other
returns-clause-other c = first_use
