use Rattle.mp_factor.proofs.Basics.{◌≡◌, false, length, nodes_in, found_in, more_found, items_found, typed_from, typed_rule}
use Rattle.mp_factor.proofs.typed_values.read_typed.Given as goal

abbrev pub invariant-loop-alloc : goal.invariant-loop-alloc
invariant-loop-alloc g l =
    more_found l.progress.so_far (items_found (found_in (typed_from (g.L.Listing.listing l.listing) l.whole false (nodes_in l.progress.rest.now))))
    ≡ found_in (typed_rule (g.L.Listing.listing l.listing) l.whole (nodes_in l.trees))

abbrev pub decreases-loop-alloc : goal.decreases-loop-alloc
decreases-loop-alloc g l = length l.progress.rest.now
