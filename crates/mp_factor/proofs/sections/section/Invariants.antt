use Rattle.mp_factor.proofs.Basics.{◌≡◌, drop, find, nodes_in, is_headed}
use Rattle.mp_factor.proofs.sections.section.Given as goal

abbrev pub invariant-loop-tree : goal.invariant-loop-tree
invariant-loop-tree l =
    find (is_headed l.keyword) (nodes_in (drop l.tree-index l.sections)) ≡ find (is_headed l.keyword) (nodes_in l.sections)
