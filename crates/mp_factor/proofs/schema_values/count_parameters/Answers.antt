use Rattle.mp_factor.proofs.Basics.{refl, node_of, place_of, is_variable_word, surplus_parameter, Parameters}
use Rattle.mp_factor.proofs.CountLemmas.{counts_more, counts_done}
use Rattle.mp_factor.proofs.schema_values.count_parameters.Goals as goal

pub loop-tree-preserved : goal.loop-tree-preserved
loop-tree-preserved c others =
    counts_more node_of is_variable_word surplus_parameter place_of Parameters record { gives = λ n. refl } c.loop-tree.room.found _ _ c.loop-tree.room.left _ _ _
    c.args.trees.now c.loop-tree.tree-index c.tree-item.result c.loop-tree-test.true c.tree-item.is c.is_variable_tree.ensures c.place.ensures
    c.counted-room.ensures.found c.counted-room.ensures.left others (c.loop-tree.invariant others)

pub returns : goal.returns
returns c others =
    counts_done node_of is_variable_word surplus_parameter c.loop-tree.room.found _ c.loop-tree.room.left c.args.trees.now c.loop-tree.tree-index
    c.loop-tree-test.false others (c.loop-tree.invariant others)
