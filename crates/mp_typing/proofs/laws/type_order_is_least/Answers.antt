use Rattle.mp_typing.proofs.Ordering.{least}
use Rattle.mp_typing.proofs.laws.type_order_is_least.Goals as goal

pub returns : goal.returns
returns c = least
