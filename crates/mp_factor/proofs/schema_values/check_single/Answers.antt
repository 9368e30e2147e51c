use Rattle.mp_factor.proofs.Basics.{refl, is_word, place_of, misshapen, key_nodes, Shape}
use Rattle.mp_factor.proofs.CountLemmas.{counts_on, counts_end}
use Rattle.mp_factor.proofs.schema_values.check_single.Goals as goal

pub loop-key-preserved : goal.loop-key-preserved
loop-key-preserved c =
    counts_on key_nodes (λ k. is_word c.args.keyword.now k.key) (λ k. misshapen (place_of k.key)) (λ k. place_of k.key) Shape
    record { gives = λ k. refl } c.loop-key.room.found _ _ c.loop-key.room.left _ _ _ c.args.keys.now c.loop-key.key-index c.key-item.result c.loop-key-test.true c.key-item.is
    c.is_keyword-is_one.ensures c.place.ensures c.counted-room.ensures.found c.counted-room.ensures.left c.loop-key.invariant

pub returns : goal.returns
returns c =
    counts_end key_nodes (λ k. is_word c.args.keyword.now k.key) (λ k. misshapen (place_of k.key)) c.loop-key.room.found _
    c.loop-key.room.left c.args.keys.now c.loop-key.key-index c.loop-key-test.false c.loop-key.invariant
