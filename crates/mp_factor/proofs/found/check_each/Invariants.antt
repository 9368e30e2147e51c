use Rattle.mp_factor.proofs.Basics.{◌≡◌, drop, nodes_in, all_right, found_in, second_found}
use Rattle.mp_factor.proofs.found.check_each.Given as goal

abbrev pub invariant-loop-tree : goal.invariant-loop-tree
invariant-loop-tree g l =
    second_found l.so_far (found_in (all_right (g.F.Form.rule l.form) (nodes_in (drop l.tree-index l.trees))))
    ≡ found_in (all_right (g.F.Form.rule l.form) (nodes_in l.trees))
