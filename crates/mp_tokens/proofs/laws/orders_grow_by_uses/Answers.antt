use Rattle.std.proofs.Common.{◌∷◌, []}
use Rattle.mp_tokens.proofs.Orders.{one_after_another}
use Rattle.mp_tokens.proofs.laws.orders_grow_by_uses.Goals as goal

pub returns : goal.returns
returns c = λ start uses s. one_after_another (start ∷ []) uses (s ∷ [])
