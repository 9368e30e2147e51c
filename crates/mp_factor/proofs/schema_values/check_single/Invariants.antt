use Rattle.mp_factor.proofs.Basics.{◌≡◌, drop, map, is_word, place_of, at_most, misshapen, found_in, second_found, key_nodes}
use Rattle.mp_factor.proofs.schema_values.check_single.Given as goal

abbrev pub invariant-loop-key : goal.invariant-loop-key
invariant-loop-key l =
    second_found l.room.found (found_in (at_most l.room.left (λ k. is_word l.keyword k.key) (λ k. misshapen (place_of k.key))
    (map key_nodes (drop l.key-index l.keys))))
    ≡ found_in (at_most 1 (λ k. is_word l.keyword k.key) (λ k. misshapen (place_of k.key))
    (map key_nodes l.keys))
