use Rattle.mp_factor.proofs.Basics.{refl, node_of, is_increase, place_of, surplus_increase, Cost}
use Rattle.mp_factor.proofs.CountLemmas.{counts_on, counts_end}
use Rattle.mp_factor.proofs.effect_values.check_increases.Goals as goal

pub loop-tree-preserved : goal.loop-tree-preserved
loop-tree-preserved c =
    counts_on (λ t. node_of t.now) is_increase surplus_increase place_of Cost record { gives = λ n. refl } c.loop-tree.room.found _ _ c.loop-tree.room.left _ _ _
    c.args.trees.now c.loop-tree.tree-index c.tree-item.result c.loop-tree-test.true c.tree-item.is c.has_head.ensures c.place.ensures
    c.counted-room.ensures.found c.counted-room.ensures.left c.loop-tree.invariant

pub returns : goal.returns
returns c =
    counts_end (λ t. node_of t.now) is_increase surplus_increase c.loop-tree.room.found _ c.loop-tree.room.left c.args.trees.now c.loop-tree.tree-index
    c.loop-tree-test.false c.loop-tree.invariant
