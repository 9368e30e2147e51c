use Rattle.std.proofs.Common.{refl, arith}
use Rattle.mp_store.proofs.OpenLemmas.{first_in_order}
use Rattle.mp_store.proofs.open_list.first_in_order.Goals as goal

pub returns-in-Some : goal.returns-in-Some
returns-in-Some c =
    first_in_order c.args.ranks.now.items c.in-Some.rank.now c.requires
    (let long = c.args.ranks.now.ok.0 in let some = c.in-Some.ensures.variant.0 refl in omega (arith, long, some)) c.in-Some.ensures.lookup
