use Rattle.mp_factor.proofs.Basics.{◌≡◌, drop, nodes_in, each, found_in, more_found}
use Rattle.mp_factor.proofs.found.read_each.Given as goal

abbrev pub invariant-loop-tree : goal.invariant-loop-tree
invariant-loop-tree g l =
    more_found l.so_far (found_in (each (g.F.Form.rule l.form) (nodes_in (drop l.tree-index l.trees)))) ≡ found_in (each (g.F.Form.rule l.form) (nodes_in l.trees))
