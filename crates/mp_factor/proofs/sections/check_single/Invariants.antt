use Rattle.mp_factor.proofs.Basics.{◌≡◌, drop, nodes_in, is_headed, place_of, at_most, misshapen, found_in, second_found}
use Rattle.mp_factor.proofs.sections.check_single.Given as goal

abbrev pub invariant-loop-tree : goal.invariant-loop-tree
invariant-loop-tree l =
    second_found l.room.found (found_in (at_most l.room.left (is_headed l.keyword) (λ n. misshapen (place_of n)) (nodes_in (drop l.tree-index l.sections))))
    ≡ found_in (at_most 1 (is_headed l.keyword) (λ n. misshapen (place_of n)) (nodes_in l.sections))
