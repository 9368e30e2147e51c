use Rattle.mp_factor.proofs.Basics.{◌≡◌, ◌++◌, drop, map, node_of, nodes_in, conjuncts}
use Rattle.std.proofs.Common.{flat_map}
use Rattle.mp_factor.proofs.conjuncts.+conjuncts.Given as goal

abbrev pub invariant-add_all_conjuncts-loop-tree : goal.invariant-add_all_conjuncts-loop-tree
invariant-add_all_conjuncts-loop-tree l =
    map (λ t. node_of t.now) l.out.items ++ flat_map conjuncts (nodes_in (drop l.tree-index l.trees))
    ≡ map (λ t. node_of t.now) l.fn.out.items ++ flat_map conjuncts (nodes_in l.trees)
