use Rattle.mp_factor.proofs.Basics.{◌≡◌, drop, nodes_in, each, found_in, more_found, name_rule}
use Rattle.mp_factor.proofs.typed_values.read_names.Given as goal

abbrev pub invariant-loop-tree : goal.invariant-loop-tree
invariant-loop-tree l =
    more_found l.so_far (found_in (each name_rule (nodes_in (drop l.tree-index l.trees)))) ≡ found_in (each name_rule (nodes_in l.trees))
