use Rattle.mp_factor.proofs.Basics.{◌≡◌, drop, map, node_of, is_increase, most_increases, at_most, found_in, second_found, surplus_increase}
use Rattle.mp_factor.proofs.effect_values.check_increases.Given as goal

abbrev pub invariant-loop-tree : goal.invariant-loop-tree
invariant-loop-tree l =
    second_found l.room.found (found_in (at_most l.room.left is_increase surplus_increase (map (λ t. node_of t.now) (drop l.tree-index l.trees))))
    ≡ found_in (at_most most_increases is_increase surplus_increase (map (λ t. node_of t.now) l.trees))
