use Rattle.mp_factor.proofs.Basics.{◌≡◌, drop, codes, filter, nodes_in, is_headed, each, found_in, more_found, action_rule}
use Rattle.mp_factor.proofs.sections.read_actions.Given as goal

abbrev pub invariant-loop-tree : goal.invariant-loop-tree
invariant-loop-tree l =
    more_found l.so_far (found_in (each action_rule (filter (is_headed (codes ":action")) (nodes_in (drop l.tree-index l.sections)))))
    ≡ found_in (each action_rule (filter (is_headed (codes ":action")) (nodes_in l.sections)))
