use Rattle.mp_factor.proofs.Basics.{node_of, nodes_in, each, found_in, name_rule}
use Rattle.mp_factor.proofs.FoundLemmas.{lists, begins, goes_on, ends}
use Rattle.mp_factor.proofs.typed_values.read_names.Goals as goal

pub loop-tree-init : goal.loop-tree-init
loop-tree-init c = rw c.new.ensures (begins (found_in (each name_rule (nodes_in c.args.trees.now))))

pub loop-tree-preserved : goal.loop-tree-preserved
loop-tree-preserved c =
    goes_on node_of name_rule _ _ lists c.loop-tree.so_far _ _ _ c.args.trees.now c.loop-tree.tree-index c.tree-item.result c.loop-tree-test.true c.tree-item.is
    c.in_ok-read.ensures c.in_ok-so_far.ensures c.loop-tree.invariant

pub returns : goal.returns
returns c = ends node_of name_rule _ _ lists c.loop-tree.so_far _ c.args.trees.now c.loop-tree.tree-index c.loop-tree-test.false c.loop-tree.invariant
