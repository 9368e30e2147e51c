use Rattle.std.proofs.Common.{◌<◌, length, arith}
use Rattle.mp_store.proofs.OpenLemmas.{order_left, taken_first}
use Rattle.mp_store.proofs.open_list.pop_in_order.Goals as goal

pub returns-clause-first : goal.returns-clause-first
returns-clause-first c =
    taken_first c.args.ranks.now.items c.pop_front.new.self.items c.pop_front.result c.requires c.pop_front.ensures.items
    (λ (some : 0 < length c.args.ranks.now.items). c.pop_front.ensures.variant.1 (let long = c.args.ranks.now.ok.0 in omega (arith, long, some)))

pub returns-clause-in_order : goal.returns-clause-in_order
returns-clause-in_order c = order_left c.args.ranks.now.items c.pop_front.new.self.items c.pop_front.result c.requires c.pop_front.ensures.items
