use Rattle.mp_factor.proofs.Basics.{refl, node_of, is_headed, place_of, misshapen, Shape}
use Rattle.mp_factor.proofs.CountLemmas.{counts_on, counts_end}
use Rattle.mp_factor.proofs.sections.check_single.Goals as goal

pub loop-tree-preserved : goal.loop-tree-preserved
loop-tree-preserved c =
    counts_on node_of (is_headed c.args.keyword.now) (λ n. misshapen (place_of n)) place_of Shape record { gives = λ n. refl } c.loop-tree.room.found _ _ c.loop-tree.room.left _ _ _
    c.args.sections.now c.loop-tree.tree-index c.tree-item.result c.loop-tree-test.true c.tree-item.is c.has_head.ensures c.place.ensures
    c.counted-room.ensures.found c.counted-room.ensures.left c.loop-tree.invariant

pub returns : goal.returns
returns c =
    counts_end node_of (is_headed c.args.keyword.now) (λ n. misshapen (place_of n)) c.loop-tree.room.found _ c.loop-tree.room.left c.args.sections.now c.loop-tree.tree-index
    c.loop-tree-test.false c.loop-tree.invariant
