use Rattle.mp_factor.proofs.Basics.{◌≡◌, drop, map, find, is_word, key_nodes}
use Rattle.mp_factor.proofs.schema_values.first_named.Given as goal

abbrev pub invariant-loop-key : goal.invariant-loop-key
invariant-loop-key l =
    find (λ k. is_word l.keyword k.key) (map key_nodes (drop l.key-index l.keys)) ≡ find (λ k. is_word l.keyword k.key) (map key_nodes l.keys)
