use Rattle.mp_factor.proofs.Basics.{◌≡◌, drop, map, flat_map, most_parameters, is_variable_word, at_most, found_in, second_found, key_nodes, parameter_members, surplus_parameter}
use Rattle.mp_factor.proofs.schema_values.check_parameters.Given as goal

abbrev pub invariant-loop-key : goal.invariant-loop-key
invariant-loop-key l =
    second_found l.room.found (found_in (at_most l.room.left is_variable_word surplus_parameter
    (flat_map parameter_members (map key_nodes (drop l.key-index l.keys)))))
    ≡ found_in (at_most most_parameters is_variable_word surplus_parameter
    (flat_map parameter_members (map key_nodes l.keys)))
