use Rattle.mp_factor.proofs.Basics.{codes, node_of, nodes_in, is_headed, action_rule}
use Rattle.mp_factor.proofs.FoundLemmas.{begins}
use Rattle.mp_factor.proofs.SectionLemmas.{each_that, each_that_goes_on, each_that_ends}
use Rattle.mp_factor.proofs.sections.read_actions.Goals as goal

pub loop-tree-init : goal.loop-tree-init
loop-tree-init c = rw c.new.ensures (begins (each_that (is_headed (codes ":action")) action_rule (nodes_in c.args.sections.now)))

pub loop-tree-preserved : goal.loop-tree-preserved
loop-tree-preserved c =
    each_that_goes_on node_of (is_headed (codes ":action")) action_rule c.loop-tree.so_far _ _ c.args.sections.now c.loop-tree.tree-index c.tree-item.result
    c.loop-tree-test.true c.tree-item.is c.in_ok-so_far.ensures c.loop-tree.invariant

pub returns : goal.returns
returns c =
    each_that_ends node_of (is_headed (codes ":action")) action_rule c.loop-tree.so_far _ c.args.sections.now c.loop-tree.tree-index c.loop-tree-test.false c.loop-tree.invariant
