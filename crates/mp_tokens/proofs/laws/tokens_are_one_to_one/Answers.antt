use Rattle.std.proofs.Common.{ap}
use Rattle.mp_tokens.specs.Order.{token}
use Rattle.mp_tokens.proofs.Orders.{one_to_one}
use Rattle.mp_tokens.proofs.laws.tokens_are_one_to_one.Goals as goal

pub returns : goal.returns
returns c = λ start uses s t p q. (one_to_one start uses s t p q, λ e. ap (token start uses) e)
