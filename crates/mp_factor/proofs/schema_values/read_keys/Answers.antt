use Rattle.mp_factor.proofs.Basics.{map, ◌∙◌, node_of, key_nodes}
use Rattle.mp_factor.proofs.KeyLemmas.{keys_read}
use Rattle.mp_factor.proofs.schema_values.read_keys.Goals as goal

pub returns : goal.returns
returns c =
    c.in_ok-schema.ensures
    ∙ keys_read c.args.action.whole (node_of c.args.name.now) (map key_nodes c.args.action.keys.now) _ _
    c.in_ok-word.ensures c.in_ok-parts.ensures
