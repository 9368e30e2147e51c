use Rattle.mp_factor.proofs.Basics.{node_of, change_rule}
use Rattle.mp_factor.proofs.FoundLemmas.{goes_on, ends}
use Rattle.mp_factor.proofs.EffectLemmas.{effects}
use Rattle.mp_factor.proofs.effect_values.read_changes.Goals as goal

pub loop-tree-preserved : goal.loop-tree-preserved
loop-tree-preserved c =
    goes_on (λ t. node_of t.now) change_rule _ _ effects c.loop-tree.so_far _ _ _ c.args.trees.now c.loop-tree.tree-index c.tree-item.result
    c.loop-tree-test.true c.tree-item.is c.in_ok-read_change.ensures c.in_ok-so_far.ensures c.loop-tree.invariant

pub returns : goal.returns
returns c =
    ends (λ t. node_of t.now) change_rule _ _ effects c.loop-tree.so_far _ c.args.trees.now c.loop-tree.tree-index c.loop-tree-test.false c.loop-tree.invariant
