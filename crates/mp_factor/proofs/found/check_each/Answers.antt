use Rattle.mp_factor.proofs.Basics.{node_of, nodes_in, all_right, found_in}
use Rattle.mp_factor.proofs.FoundLemmas.{checks_begin, checks_on, checks_end}
use Rattle.mp_factor.proofs.found.check_each.Goals as goal

pub loop-tree-init : goal.loop-tree-init
loop-tree-init g c = checks_begin (found_in (all_right (g.F.Form.rule c.args.form.now) (nodes_in c.args.trees.now)))

pub loop-tree-preserved : goal.loop-tree-preserved
loop-tree-preserved g c =
    checks_on node_of (g.F.Form.rule c.args.form.now) c.loop-tree.so_far _ _ _ c.args.trees.now c.loop-tree.tree-index c.tree-item.result c.loop-tree-test.true c.tree-item.is
    c.in_ok-read.ensures c.second-so_far.ensures c.loop-tree.invariant

pub returns : goal.returns
returns g c = checks_end node_of (g.F.Form.rule c.args.form.now) c.loop-tree.so_far _ c.args.trees.now c.loop-tree.tree-index c.loop-tree-test.false c.loop-tree.invariant
