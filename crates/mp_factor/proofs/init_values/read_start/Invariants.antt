use Rattle.mp_factor.proofs.Basics.{◌≡◌, [], take, drop, nodes_in, AreFirst, all_right, costly, each, found_in, both_found, said_found, fact_rule, given, differing, start_of}
use Rattle.mp_factor.proofs.EffectLemmas.{with_facts}
use Rattle.mp_factor.proofs.init_values.read_start.Given as goal

abbrev pub invariant-loop-tree : goal.invariant-loop-tree
invariant-loop-tree l = record {
  costs : AreFirst l.costs.entries (given (nodes_in (take l.tree-index l.trees)));
  single : l.single ≡ found_in (all_right (λ g. costly g.at) (differing [] (given (nodes_in (take l.tree-index l.trees)))));
  start : both_found with_facts l.so_far (found_in (each fact_rule (nodes_in (drop l.tree-index l.trees))))
      ≡ said_found start_of (found_in (each fact_rule (nodes_in l.trees)));
}
