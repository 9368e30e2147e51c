use Rattle.mp_factor.proofs.Basics.{node_of, nodes_in, each, found_in}
use Rattle.mp_factor.proofs.FoundLemmas.{lists, begins, goes_on, ends}
use Rattle.mp_factor.proofs.found.read_each.Goals as goal

pub loop-tree-init : goal.loop-tree-init
loop-tree-init g c = rw c.in_ok-with_capacity.ensures (begins (found_in (each (g.F.Form.rule c.args.form.now) (nodes_in c.args.trees.now))))

pub loop-tree-preserved : goal.loop-tree-preserved
loop-tree-preserved g c =
    goes_on node_of (g.F.Form.rule c.args.form.now) _ _ lists c.loop-tree.so_far _ _ _ c.args.trees.now c.loop-tree.tree-index c.tree-item.result c.loop-tree-test.true c.tree-item.is
    c.in_ok-read.ensures c.in_ok-so_far.ensures c.loop-tree.invariant

pub returns : goal.returns
returns g c = ends node_of (g.F.Form.rule c.args.form.now) _ _ lists c.loop-tree.so_far _ c.args.trees.now c.loop-tree.tree-index c.loop-tree-test.false c.loop-tree.invariant
