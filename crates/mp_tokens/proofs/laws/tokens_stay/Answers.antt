use Rattle.mp_tokens.proofs.Orders.{stays}
use Rattle.mp_tokens.proofs.laws.tokens_stay.Goals as goal

pub returns : goal.returns
returns c = stays
