use Rattle.mp_factor.proofs.Basics.{nodes_in, is_variable_word, key_nodes, parameter_members, surplus_parameter}
use Rattle.mp_factor.proofs.CountLemmas.{counts_part, counts_parts_end}
use Rattle.mp_factor.proofs.schema_values.check_parameters.Goals as goal

pub loop-key-preserved : goal.loop-key-preserved
loop-key-preserved c =
    counts_part key_nodes parameter_members is_variable_word surplus_parameter c.loop-key.room.found _ _
    c.loop-key.room.left _ c.args.keys.now c.loop-key.key-index c.key-item.result (nodes_in c.naming_members.result.now) c.loop-key-test.true c.key-item.is
    c.naming_members.ensures c.count_parameters-room.ensures c.loop-key.invariant

pub returns : goal.returns
returns c =
    counts_parts_end key_nodes parameter_members is_variable_word surplus_parameter c.loop-key.room.found _
    c.loop-key.room.left c.args.keys.now c.loop-key.key-index c.loop-key-test.false c.loop-key.invariant
