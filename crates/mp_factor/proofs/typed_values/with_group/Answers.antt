use Rattle.mp_factor.proofs.Basics.{◌∷◌, node_of, nodes_in, each, found_in}
use Rattle.mp_factor.proofs.TypedLemmas.{right_group, wrong_group}
use Rattle.mp_factor.proofs.typed_values.with_group.Goals as goal

pub returns-in_ok-items-in-Ok : goal.returns-in_ok-items-in-Ok
returns-in_ok-items-in-Ok g c =
    let items = found_in (each (g.L.Listing.listing c.args.listing.now).item (node_of c.args.group.first.now ∷ nodes_in c.args.group.others.now)) in
    right_group c.args.so_far items c.in-Ok.item_type c.args.item_type _ c.in_ok-items-in-Ok.ensures c.in-Ok.is

pub returns-in_ok-items-in-Err : goal.returns-in_ok-items-in-Err
returns-in_ok-items-in-Err g c =
    let items = found_in (each (g.L.Listing.listing c.args.listing.now).item (node_of c.args.group.first.now ∷ nodes_in c.args.group.others.now)) in
    wrong_group c.args.so_far items c.untyped-item_type.result c.in-Err.fault c.args.item_type _ _
    c.second.ensures c.in_ok-items-in-Err.ensures c.in-Err.is
