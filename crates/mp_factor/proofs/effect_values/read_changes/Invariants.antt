use Rattle.mp_factor.proofs.Basics.{◌≡◌, drop, map, node_of, each, found_in, both_found, said_found, change_rule, effect_of}
use Rattle.mp_factor.proofs.EffectLemmas.{with_changes}
use Rattle.mp_factor.proofs.effect_values.read_changes.Given as goal

abbrev pub invariant-loop-tree : goal.invariant-loop-tree
invariant-loop-tree l =
    both_found with_changes l.so_far (found_in (each change_rule (map (λ t. node_of t.now) (drop l.tree-index l.trees))))
    ≡ said_found effect_of (found_in (each change_rule (map (λ t. node_of t.now) l.trees)))
