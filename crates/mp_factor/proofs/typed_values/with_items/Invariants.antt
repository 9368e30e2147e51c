use Rattle.mp_factor.proofs.Basics.{◌≡◌, drop, nodes_in, said, each, found_in, more_found}
use Rattle.mp_factor.proofs.typed_values.with_items.Given as goal

abbrev pub invariant-loop-tree : goal.invariant-loop-tree
invariant-loop-tree g l =
    more_found l.items (found_in (each (λ n. said (λ make. make l.item_type) ((g.L.Listing.listing l.listing).item n)) (nodes_in (drop l.tree-index l.trees))))
    ≡ more_found l.fn.so_far (found_in (each (λ n. said (λ make. make l.item_type) ((g.L.Listing.listing l.listing).item n)) (nodes_in l.trees)))
