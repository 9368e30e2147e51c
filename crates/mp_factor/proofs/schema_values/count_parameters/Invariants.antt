use Rattle.mp_factor.proofs.Basics.{◌≡◌, ◌++◌, List, drop, Node, nodes_in, is_variable_word, at_most, found_in, second_found, surplus_parameter}
use Rattle.mp_factor.proofs.schema_values.count_parameters.Given as goal

abbrev pub invariant-loop-tree : goal.invariant-loop-tree
invariant-loop-tree l =
    (others : List Node)
    → second_found l.room.found (found_in (at_most l.room.left is_variable_word surplus_parameter (nodes_in (drop l.tree-index l.trees) ++ others)))
    ≡ second_found l.fn.room.found (found_in (at_most l.fn.room.left is_variable_word surplus_parameter (nodes_in l.trees ++ others)))
