use Rattle.mp_factor.proofs.Basics.{List, ap, ◌∙◌, Node, node_of, nodes_in, keys_of}
use Rattle.mp_factor.proofs.Steps.{first_and_others, behind}
use Rattle.mp_factor.proofs.KeyLemmas.{first_of_keys}
use Rattle.mp_factor.proofs.keys.first_key.Goals as goal

pub returns-in-len1-up-clause-key : goal.returns-in-len1-up-clause-key
returns-in-len1-up-clause-key c =
    ap (λ (ns : List Node). keys_of ns) (first_and_others c.args.trees.now c.key-item.result c.in-len1-up.len_at_least c.key-item.is)
    ∙ first_of_keys (node_of c.key-item.result) (nodes_in (behind 1 c.args.trees.now)) (nodes_in c.split.result.0.now) (nodes_in c.split.result.1.now)
    c.value_len.result c.value_len.ensures c.split.ensures.front c.split.ensures.back
