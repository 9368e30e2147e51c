use Rattle.mp_factor.proofs.Basics.{◌≡◌, drop, map, node_of, each, found_in, more_found}
use Rattle.mp_factor.proofs.conjuncts.read_conjuncts.Given as goal

abbrev pub invariant-loop-tree : goal.invariant-loop-tree
invariant-loop-tree g l =
    more_found l.so_far (found_in (each (g.F.Form.rule l.form) (map (λ t. node_of t.now) (drop l.tree-index l.trees))))
    ≡ found_in (each (g.F.Form.rule l.form) (map (λ t. node_of t.now) l.trees))
