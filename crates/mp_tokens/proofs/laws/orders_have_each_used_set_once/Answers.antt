use Rattle.mp_tokens.proofs.Orders.{order_different, order_has, order_only}
use Rattle.mp_tokens.proofs.laws.orders_have_each_used_set_once.Goals as goal

pub returns-clause-different : goal.returns-clause-different
returns-clause-different c = order_different

pub returns-clause-sets : goal.returns-clause-sets
returns-clause-sets c = λ start uses s. (order_only start uses s, order_has start uses s)
