use Rattle.mp_factor.proofs.Basics.{◌≡◌, ◌++◌, length, map, nodes_in, key_nodes, keys_of}
use Rattle.mp_factor.proofs.keys.keys_in.Given as goal

abbrev pub invariant-loop-first : goal.invariant-loop-first
invariant-loop-first l =
    map key_nodes l.keys.items ++ keys_of (nodes_in l.rest) ≡ keys_of (nodes_in l.fn.trees)

abbrev pub decreases-loop-first : goal.decreases-loop-first
decreases-loop-first l = length l.rest
