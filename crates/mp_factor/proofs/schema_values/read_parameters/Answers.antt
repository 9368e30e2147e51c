use Rattle.mp_factor.proofs.Basics.{map, refl, ap, ◌∙◌, wanted, found_in, key_nodes, in_key, parameters_rule}
use Rattle.std.proofs.Common.{codes}
use Rattle.mp_factor.proofs.PartLemmas.{paired_as}
use Rattle.mp_factor.proofs.schema_values.read_parameters.Goals as goal

pub returns : goal.returns
returns c =
    let keys = map key_nodes c.args.action.keys.now in
    paired_as _ _ _ _ _ c.pair.ensures (paired_as _ _ _ _ _ c.pair-agent.ensures refl c.in_ok-read_agent_key.ensures)
    (c.in_ok-read_key.ensures ∙ ap (λ m. found_in (in_key (codes ":parameters") (wanted parameters_rule c.args.action.whole) m keys)) c.new-none.ensures)
