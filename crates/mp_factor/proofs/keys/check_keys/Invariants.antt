use Rattle.mp_factor.proofs.Basics.{◌≡◌, drop, map, all_right, found_in, second_found, key_nodes, key_rule}
use Rattle.mp_factor.proofs.keys.check_keys.Given as goal

abbrev pub invariant-loop-key : goal.invariant-loop-key
invariant-loop-key l =
    second_found l.so_far (found_in (all_right (key_rule l.whole) (map key_nodes (drop l.key-index l.keys))))
    ≡ found_in (all_right (key_rule l.whole) (map key_nodes l.keys))
