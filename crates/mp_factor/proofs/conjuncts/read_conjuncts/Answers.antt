use Rattle.mp_factor.proofs.Basics.{node_of}
use Rattle.mp_factor.proofs.FoundLemmas.{lists, goes_on, ends}
use Rattle.mp_factor.proofs.conjuncts.read_conjuncts.Goals as goal

pub loop-tree-preserved : goal.loop-tree-preserved
loop-tree-preserved g c =
    goes_on (λ t. node_of t.now) (g.F.Form.rule c.args.form.now) _ _ lists c.loop-tree.so_far _ _ _ c.args.trees.now c.loop-tree.tree-index c.tree-item.result
    c.loop-tree-test.true c.tree-item.is c.in_ok-read.ensures c.in_ok-so_far.ensures c.loop-tree.invariant

pub returns : goal.returns
returns g c =
    ends (λ t. node_of t.now) (g.F.Form.rule c.args.form.now) _ _ lists c.loop-tree.so_far _ c.args.trees.now c.loop-tree.tree-index c.loop-tree-test.false
    c.loop-tree.invariant
